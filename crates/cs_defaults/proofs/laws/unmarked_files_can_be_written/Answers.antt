use Rattle.cs_defaults.proofs.Copies.{written_file}
use Rattle.cs_defaults.proofs.laws.unmarked_files_can_be_written.Goals as goal

pub returns : goal.returns
returns c has f h = written_file has f h
