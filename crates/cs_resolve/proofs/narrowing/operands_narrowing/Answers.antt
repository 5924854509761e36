use Rattle.std.proofs.Common.{rules, sym}
use Rattle.cs_resolve.proofs.NarrowingSteps.{not_two}
use Rattle.cs_resolve.proofs.narrowing.operands_narrowing.Goals as goal

pub returns-then-len-ne2 : goal.returns-then-len-ne2
returns-then-len-ne2 c = sym (not_two c.args.operands.now.items (search (rules, c.if-len-ne2.true, c.len.ensures)))
