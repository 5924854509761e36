use Rattle.cs_selectors.proofs.Without.{unselected_have_none}
use Rattle.cs_selectors.proofs.laws.unselected_files_have_no_selectors.Goals as goal

pub returns : goal.returns
returns c fs gs h =
    unselected_have_none fs gs h
