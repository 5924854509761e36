use Rattle.cs_embeddings.proofs.PlainParts.{all_stand}
use Rattle.cs_embeddings.proofs.held.standing.Goals as goal

pub returns : goal.returns
returns c =
    all_stand c.args.operands.now c.loop-operand.operand-index c.loop-operand-test.false c.loop-operand.standing.items c.loop-operand.is_met
    c.loop-operand.invariant
