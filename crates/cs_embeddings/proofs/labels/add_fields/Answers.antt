use Rattle.std.proofs.Common.{◌+◌, drop, ap}
use Rattle.cs_grammar.specs.View.{field_view, fields_view}
use Rattle.cs_embeddings.specs.Narrowed.{has_field, is_labelled}
use Rattle.cs_embeddings.proofs.LabelSteps.{goes_start, goes_on, goes_done}
use Rattle.cs_embeddings.proofs.Walks.{at_place, drop_all}
use Rattle.cs_embeddings.proofs.labels.add_fields.Goals as goal

pub loop-field-init : goal.loop-field-init
loop-field-init c is = goes_start c.args.numbers.now c.args.row.now.items (λ s. has_field s (fields_view c.args.fields.now)) is

pub loop-field-preserved : goal.loop-field-preserved
loop-field-preserved c is =
    let xs = c.args.fields.now in
    let i = c.loop-field.field-index in
    let x = c.field-item.result in
    let so_far = c.loop-field.invariant is in
    goes_on c.args.numbers.now c.loop-field.numbers c.add_field.new.numbers c.args.row.now.items c.loop-field.row.items c.add_field.new.row.items
    (λ s. has_field s (fields_view xs)) (λ s. has_field s (fields_view (drop i xs))) (λ s. has_field s (fields_view (drop (i + 1) xs)))
    (λ s. is_labelled s (field_view x).label (field_view x).mark) so_far (c.in_ok-add_field.ensures so_far.is)
    (λ s. ap (λ ys. has_field s (fields_view ys)) (at_place xs i x c.loop-field-test.true c.field-item.is))

pub returns : goal.returns
returns c is =
    let xs = c.args.fields.now in
    let i = c.loop-field.field-index in
    goes_done c.args.numbers.now c.loop-field.numbers c.args.row.now.items c.loop-field.row.items (λ s. has_field s (fields_view xs))
    (λ s. has_field s (fields_view (drop i xs))) (c.loop-field.invariant is)
    (λ s. ap (λ ys. has_field s (fields_view ys)) (drop_all xs i c.loop-field-test.false))
