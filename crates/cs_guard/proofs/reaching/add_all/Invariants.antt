use Rattle.std.proofs.Common.{take}
use Rattle.cs_guard.specs.Found.{Added}
use Rattle.cs_guard.proofs.reaching.add_all.Given as goal

abbrev pub invariant-loop-number : goal.invariant-loop-number
invariant-loop-number l = Added (take l.number-index l.numbers) l.fn.seen l.fn.order.items l.seen l.order.items
