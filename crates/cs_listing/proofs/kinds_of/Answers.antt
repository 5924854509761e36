use Rattle.std.proofs.Common.{◌∙◌, subst}
use Rattle.std.proofs.lemmas.Result.{IfOk-weaker}
use Rattle.cs_listing.specs.ByKind.{AreByKind, AreLeftOpen}
use Rattle.cs_listing.proofs.Sound.{kinds_hold}
use Rattle.cs_listing.proofs.kinds_of.Goals as goal

pub returns-clause-count : goal.returns-clause-count
returns-clause-count c =
    IfOk-weaker c.kinds_at.result _ _
    (λ v left. (subst (λ ns. AreLeftOpen c.deref-3.result.now ns v.items) c.deref-2.ensures.value left).count ∙ c.in_ok-numbering.ensures.long)
    c.kinds_at.ensures

pub returns-clause-sound : goal.returns-clause-sound
returns-clause-sound c =
    let rules = c.in_ok-numbering.field-0.numbering.rules.items in
    let inner = c.in_ok-numbering.field-0.numbering.children.items in
    let numbers = c.in_ok-numbering.field-0.numbers.items in
    let known = c.in_ok-known.known.items in
    let told : AreByKind rules known = subst (λ rs. AreByKind rs known) c.deref.ensures.value c.in_ok-known.ensures in
    IfOk-weaker c.kinds_at.result _ _
    (λ v left. kinds_hold c.args.«package».now rules inner numbers c.in_ok-numbering.ensures known told v.items
    (subst (λ ns. AreLeftOpen known ns v.items) c.deref-2.ensures.value (subst (λ ks. AreLeftOpen ks c.deref-2.result.now v.items) c.deref-3.ensures.value left)))
    c.kinds_at.ensures
