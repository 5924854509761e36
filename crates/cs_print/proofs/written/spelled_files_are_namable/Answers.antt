use Rattle.cs_print.proofs.Namable.{namable}
use Rattle.cs_print.proofs.written.spelled_files_are_namable.Goals as goal

pub returns : goal.returns
returns c p source f k = namable p source f k
