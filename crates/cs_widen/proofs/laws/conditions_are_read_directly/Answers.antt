use Rattle.cs_widen.proofs.Conditional.{conditions_read_directly}
use Rattle.cs_widen.proofs.laws.conditions_are_read_directly.Goals as goal

pub returns : goal.returns
returns c = conditions_read_directly
