use Rattle.cs_resolve.proofs.BaseLaw.{least, found_refinements, one_refinements, one_environment}
use Rattle.cs_resolve.proofs.refinement.refinement_law.Goals as goal

pub returns : goal.returns
returns c = record { bases = least; found = found_refinements; one = one_refinements; environment = one_environment }
