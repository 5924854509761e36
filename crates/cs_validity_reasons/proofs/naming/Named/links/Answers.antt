use Rattle.std.proofs.Common.{None, refl, subst}
use Rattle.std.specs.List.{AllZip}
use Rattle.std.proofs.lemmas.List.{take_all}
use Rattle.cs_reasons.specs.declared.reasons.Link.{Link}
use Rattle.cs_validity_reasons.specs.PlacedTold.{IsNamed}
use Rattle.cs_validity_reasons.specs.Renamed.{IsLinkRenamed}
use Rattle.cs_validity_reasons.specs.Led.{PlacedCause}
use Rattle.cs_validity_reasons.proofs.Tells.{zip_more}
use Rattle.cs_validity_reasons.proofs.naming.Named.links.Goals as goal

pub loop-link-preserved : goal.loop-link-preserved
loop-link-preserved c =
    let s = c.args.self.now in
    let says = IsNamed s.flat.now s.book.now.numbering.rules.items s.book.now.numbering.children.items in
    let none : Link PlacedCause = record { item = 0; rule = 0; up = None; as_close = 0 } in
    zip_more (IsLinkRenamed says c.args.links.now) c.args.links.now c.loop-link.named.items c.push.new.self.items c.loop-link.link-index none _ c.loop-link-test.true c.in_ok-push.ensures.items c.loop-link.invariant
    record { item = refl; rule = refl; up = c.up-up.ensures; as_close = refl }

pub returns : goal.returns
returns c =
    let s = c.args.self.now in
    let says = IsNamed s.flat.now s.book.now.numbering.rules.items s.book.now.numbering.children.items in
    subst (λ xs. AllZip (IsLinkRenamed says c.args.links.now) xs c.loop-link.named.items) (take_all c.loop-link.link-index c.args.links.now c.loop-link-test.false) c.loop-link.invariant
