use Rattle.std.proofs.Common.{◌-◌, length}
use Rattle.cs_guard.proofs.Walks.{Walking}
use Rattle.cs_guard.proofs.reaching.reachable.Given as goal

abbrev pub decreases-loop-next : goal.decreases-loop-next
decreases-loop-next l = length l.seen.items - l.next

abbrev pub invariant-loop-next : goal.invariant-loop-next
invariant-loop-next l = Walking l.package l.root l.seen.items l.order.items l.next
