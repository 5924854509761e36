use Rattle.cs_conditions.proofs.Without.{chosen_have_none}
use Rattle.cs_conditions.proofs.laws.chosen_files_have_no_conditions.Goals as goal

pub returns : goal.returns
returns c fs gs h = chosen_have_none fs gs h
