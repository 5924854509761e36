use Rattle.cs_widen.proofs.PlainOperands.{plain_read_directly}
use Rattle.cs_widen.proofs.laws.plain_operands_are_read_directly.Goals as goal

pub returns : goal.returns
returns c = plain_read_directly
