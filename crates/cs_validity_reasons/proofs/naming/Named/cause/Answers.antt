use Rattle.std.proofs.Common.{◌≡◌, ⊎_elim, sym, ◌∙◌, subst}
use Rattle.cs_validity_reasons.specs.Causes.{property}
use Rattle.cs_validity_reasons.specs.PlacedCauses.{IsPlacedCause}
use Rattle.cs_validity_reasons.specs.PlacedTold.{cause_at}
use Rattle.cs_validity_reasons.specs.Led.{PlacedCause}
use Rattle.cs_validity_reasons.specs.declared.cause.KeyedCause.TheVariants.{Property, NoAlternative}
use Rattle.cs_validity_reasons.proofs.KeyedOnce.{property_named}
use Rattle.cs_validity_reasons.proofs.naming.Named.cause.Goals as goal

pub returns-in-Property : goal.returns-in-Property
returns-in-Property c = λ f h.
    let xs = c.args.self.now.flat.now in
    let rules = c.args.self.now.book.now.numbering.rules.items in
    let inner = c.args.self.now.book.now.numbering.children.items in
    let p = c.args.pair in
    let v = c.in-Property in
    let this : PlacedCause = Property v.key v.item v.rule in
    let is : c.args.cause ≡ this = v.is in
    subst (λ (z : PlacedCause). property c.property.result.now v.item v.rule ≡ cause_at xs rules inner p z) (sym is)
    (⊎_elim
    (λ (a : IsPlacedCause f xs rules inner p.0 p.1 c.args.cause).
    property_named f xs rules inner p.0 p.1 v.key v.item v.rule c.property.result.now c.property.ensures (subst (IsPlacedCause f xs rules inner p.0 p.1) is a))
    (λ (a : c.args.cause ≡ NoAlternative). absurd (let e : this ≡ NoAlternative = sym is ∙ a in cc))
    h)
