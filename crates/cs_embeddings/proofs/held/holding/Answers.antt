use Rattle.cs_embeddings.proofs.PlainParts.{all_held}
use Rattle.cs_embeddings.proofs.held.holding.Goals as goal

pub returns : goal.returns
returns c = all_held c.args.operands.now c.loop-operand.operand-index c.loop-operand-test.false c.loop-operand.held.items c.loop-operand.invariant
