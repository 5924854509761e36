use Rattle.cs_conditions.proofs.Without.{files_stand}
use Rattle.cs_conditions.proofs.laws.files_without_conditions_stay.Goals as goal

pub returns : goal.returns
returns c fs h = files_stand fs h
