use Rattle.std.proofs.Common.{rules, ◌≡◌, false, sym, ap, ◌∙◌}
use Rattle.cs_grammar.specs.View.{fields_view}
use Rattle.cs_resolve.specs.Refinement as Refinement
use Rattle.cs_resolve.proofs.NarrowingSteps.{no_label, no_plain_value, narrows_on}
use Rattle.cs_resolve.proofs.narrowing.narrows.Goals as goal
use Rattle.cs_resolve.proofs.narrowing.narrows.Goals.{then-not-contains-via-then-not-contains, then-not-contains-via-else-not-contains+then-has_literal_or_reference}

pub returns-then-not-contains : goal.returns-then-not-contains
returns-then-not-contains c ls held =
    let xs = c.deref-field-items.result.now in
    let i = c.loop-field.field-index in
    let x = c.field-item.result in
    let same = ap (λ ys. Refinement.narrows (fields_view ys) ls) c.deref-field-items.ensures.value in
    let t = c.as_str.result.now in
    let known = c.contains.ensures ∙ held t in
    let none : Refinement.narrows (fields_view xs) ls ≡ false = elim c.then-not-contains.branch [
      | then-not-contains-via-then-not-contains w ↦ no_label xs i x c.loop-field-test.true c.field-item.is ls (c.loop-field.invariant ls held) t c.as_str.ensures.value (sym known ∙ search (rules, w.if-not-contains.true))
      | then-not-contains-via-else-not-contains+then-has_literal_or_reference w ↦ no_plain_value xs i x c.loop-field-test.true c.field-item.is ls (c.loop-field.invariant ls held) t c.as_str.ensures.value (sym w.has_literal_or_reference.ensures ∙ w.if-has_literal_or_reference.true)
    ] in
    sym (sym same ∙ none)

pub loop-field-preserved : goal.loop-field-preserved
loop-field-preserved c ls held =
    let xs = c.deref-field-items.result.now in
    let i = c.loop-field.field-index in
    let x = c.field-item.result in
    let t = c.as_str.result.now in
    narrows_on xs i x c.loop-field-test.true c.field-item.is ls (c.loop-field.invariant ls held) t c.as_str.ensures.value (sym (held t) ∙ sym c.contains.ensures ∙ search (rules, c.if-not-contains.false)) (sym c.has_literal_or_reference.ensures ∙ c.if-has_literal_or_reference.false)
