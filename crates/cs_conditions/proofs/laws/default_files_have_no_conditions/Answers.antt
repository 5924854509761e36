use Rattle.cs_conditions.proofs.Without.{files_default}
use Rattle.cs_conditions.proofs.laws.default_files_have_no_conditions.Goals as goal

pub returns : goal.returns
returns c fs h = files_default fs h
