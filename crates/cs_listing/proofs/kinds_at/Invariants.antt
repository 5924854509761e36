use Rattle.std.proofs.Common.{take}
use Rattle.cs_listing.specs.ByKind.{AreLeftOpen}
use Rattle.cs_listing.proofs.kinds_at.Given as goal

abbrev pub invariant-loop-number : goal.invariant-loop-number
invariant-loop-number l = AreLeftOpen l.known (take l.number-index l.numbers) l.kinds.items
