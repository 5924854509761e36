use Rattle.cs_selectors.proofs.Without.{files_stand}
use Rattle.cs_selectors.proofs.laws.files_without_selectors_stay.Goals as goal

pub returns : goal.returns
returns c fs h =
    files_stand fs h
