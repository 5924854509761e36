use Rattle.cs_defaults.proofs.DefaultFiles.{files_stand}
use Rattle.cs_defaults.proofs.laws.default_files_stay.Goals as goal

pub returns : goal.returns
returns c fs h = files_stand fs h
