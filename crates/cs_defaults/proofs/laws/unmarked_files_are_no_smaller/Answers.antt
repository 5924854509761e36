use Rattle.cs_defaults.proofs.Sizes.{files_no_smaller}
use Rattle.cs_defaults.proofs.laws.unmarked_files_are_no_smaller.Goals as goal

pub returns : goal.returns
returns c has fs = files_no_smaller has fs
