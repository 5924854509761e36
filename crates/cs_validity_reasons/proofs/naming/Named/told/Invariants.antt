use Rattle.std.proofs.Common.{take}
use Rattle.std.specs.List.{AllZip}
use Rattle.cs_validity_reasons.specs.PlacedTold.{IsNamed}
use Rattle.cs_validity_reasons.specs.Renamed.{IsReasonRenamed}
use Rattle.cs_validity_reasons.proofs.naming.Named.told.Given as goal

abbrev pub invariant-loop-reason : goal.invariant-loop-reason
invariant-loop-reason l =
    AllZip (IsReasonRenamed (IsNamed l.self.flat.now l.self.book.now.numbering.rules.items l.self.book.now.numbering.children.items) l.links) (take l.reason-index l.told) l.named.items
