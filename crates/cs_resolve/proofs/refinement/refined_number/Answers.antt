use Rattle.std.proofs.Common.{rules, ◌≡◌, Some, None, sym, subst, slice_get}
use Rattle.std.proofs.lemmas.Option.{slice_get_past}
use Rattle.std.specs.Str.{bytes_eq}
use Rattle.std.specs.HashMap.{get_by}
use Rattle.cs_grammar.specs.View.{expr_view, fields_view}
use Rattle.cs_resolve.proofs.Searches.{one_body, at_index, some_set, refines, refines_not}
use Rattle.cs_resolve.proofs.refinement.refined_number.Goals as goal

pub returns-in_err-labels-clause-found : goal.returns-in_err-labels-clause-found
returns-in_err-labels-clause-found c ds held sound m has r =
    let at : get_by (λ k. bytes_eq c.in_ok-narrowing.narrowing.base.now k.now) c.args.bases.now.numbers ≡ Some c.in_ok-number.field-0.now = search (rules, c.in_ok-number.ensures.value) in
    let none : slice_get c.args.bases.now.sets.items c.in_ok-number.field-0.now ≡ None = subst (λ xs. slice_get xs c.in_ok-number.field-0.now ≡ None) c.deref.ensures.value (slice_get_past c.deref.result.now c.in_ok-number.field-0.now c.in_err-labels.ensures.lookup.3) in
    absurd (some_set ds c.args.bases.now sound c.in_ok-narrowing.narrowing.base.now c.in_ok-number.field-0.now at none)

pub returns-then-narrows-clause-sound : goal.returns-then-narrows-clause-sound
returns-then-narrows-clause-sound c ds held sound =
    let n = c.args.name.now in
    let body = c.in_ok-body.body in
    let only : get_by (λ k. bytes_eq n k.now) c.args.bodies.now ≡ Some (Some body) = search (rules, c.in_ok-get.ensures.value) in
    let there : slice_get c.args.bases.now.sets.items c.in_ok-number.field-0.now ≡ Some c.in_ok-labels.labels.now = subst (λ xs. slice_get xs c.in_ok-number.field-0.now ≡ Some c.in_ok-labels.labels.now) c.deref.ensures.value (at_index c.deref.result.now c.in_ok-number.field-0.now c.in_ok-labels.labels.now c.in_ok-labels.ensures.lookup.3.0 c.in_ok-labels.ensures.lookup.1) in
    let narrowing = c.in_ok-narrowing.narrowing in
    refines ds c.args.bases.now sound narrowing.base.now c.in_ok-number.field-0.now (sym c.in_ok-number.ensures.value) c.in_ok-labels.labels.now there n (expr_view body.now) (fields_view narrowing.fields.now.items) (one_body c.args.bodies.now ds n body held only) (sym c.in_ok-narrowing.ensures) c.narrows.result c.narrows.ensures c.if-narrows.true

pub returns-else-narrows-clause-found : goal.returns-else-narrows-clause-found
returns-else-narrows-clause-found c ds held sound m has r =
    let n = c.args.name.now in
    let body = c.in_ok-body.body in
    let only : get_by (λ k. bytes_eq n k.now) c.args.bodies.now ≡ Some (Some body) = search (rules, c.in_ok-get.ensures.value) in
    let there : slice_get c.args.bases.now.sets.items c.in_ok-number.field-0.now ≡ Some c.in_ok-labels.labels.now = subst (λ xs. slice_get xs c.in_ok-number.field-0.now ≡ Some c.in_ok-labels.labels.now) c.deref.ensures.value (at_index c.deref.result.now c.in_ok-number.field-0.now c.in_ok-labels.labels.now c.in_ok-labels.ensures.lookup.3.0 c.in_ok-labels.ensures.lookup.1) in
    let narrowing = c.in_ok-narrowing.narrowing in
    absurd (refines_not ds c.args.bases.now sound narrowing.base.now c.in_ok-number.field-0.now (sym c.in_ok-number.ensures.value) c.in_ok-labels.labels.now there n (expr_view body.now) (fields_view narrowing.fields.now.items) (one_body c.args.bodies.now ds n body held only) (sym c.in_ok-narrowing.ensures) c.narrows.result c.narrows.ensures c.if-narrows.false m r)
