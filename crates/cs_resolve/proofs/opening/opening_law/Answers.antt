use Rattle.cs_resolve.proofs.OpeningRule.{opened_law, told_law}
use Rattle.cs_resolve.proofs.opening.opening_law.Goals as goal

pub returns : goal.returns
returns c = record { kept = opened_law; at_fault = told_law }
