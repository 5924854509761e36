use Rattle.std.proofs.Common.{take}
use Rattle.std.specs.List.{AllZip}
use Rattle.cs_validity_reasons.specs.PlacedTold.{IsNamed}
use Rattle.cs_validity_reasons.specs.Renamed.{IsLinkRenamed}
use Rattle.cs_validity_reasons.proofs.naming.Named.links.Given as goal

abbrev pub invariant-loop-link : goal.invariant-loop-link
invariant-loop-link l =
    AllZip (IsLinkRenamed (IsNamed l.self.flat.now l.self.book.now.numbering.rules.items l.self.book.now.numbering.children.items) l.links) (take l.link-index l.links) l.named.items
