use Rattle.cs_names.proofs.Written.{files_have_none}
use Rattle.cs_names.proofs.laws.written_files_have_no_names.Goals as goal

pub returns : goal.returns
returns c fs h = files_have_none fs h
