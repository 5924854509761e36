use Rattle.cs_print.proofs.Sound.{written}
use Rattle.cs_print.proofs.written.spelled_files_are_written.Goals as goal

pub returns : goal.returns
returns c source f k = written source f k
