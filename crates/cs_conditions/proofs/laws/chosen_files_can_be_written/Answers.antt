use Rattle.cs_conditions.proofs.Written.{chosen_written}
use Rattle.cs_conditions.proofs.laws.chosen_files_can_be_written.Goals as goal

pub returns : goal.returns
returns c fs gs h k = chosen_written fs gs h k
