use Rattle.std.proofs.Common.{take}
use Rattle.cs_listing.specs.ByKind.{AreByKind}
use Rattle.cs_listing.proofs.all_by_kind.Given as goal

abbrev pub invariant-loop-rule : goal.invariant-loop-rule
invariant-loop-rule l = AreByKind (take l.rule-index l.rules) l.known.items
