use Rattle.cs_selectors.proofs.Written.{unselected_written}
use Rattle.cs_selectors.proofs.laws.unselected_files_can_be_written.Goals as goal

pub returns : goal.returns
returns c fs gs h k =
    unselected_written fs gs h k
