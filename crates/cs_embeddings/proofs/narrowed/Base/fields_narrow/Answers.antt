use Rattle.std.proofs.Common.{refl, sym, ◌∙◌}
use Rattle.cs_grammar.specs.View.{field_view, fields_view}
use Rattle.cs_embeddings.specs.Narrowed as Spec
use Rattle.cs_embeddings.specs.NarrowedTable.{base_has}
use Rattle.cs_embeddings.proofs.Walks.{well_more, one_ill, all_well}
use Rattle.cs_embeddings.proofs.narrowed.Base.fields_narrow.Goals as goal

pub returns-then-not-is_narrowed_by : goal.returns-then-not-is_narrowed_by
returns-then-not-is_narrowed_by c =
    let has = base_has c.args.self in
    one_ill (λ fs. Spec.fields_narrow has (fields_view fs)) (λ f. Spec.narrows_field has (field_view f).label (field_view f).mark (field_view f).value) (λ f fs. refl)
    c.args.fields.now c.loop-field.field-index c.loop-field.invariant c.field-item.result c.loop-field-test.true c.field-item.is
    (sym c.is_narrowed_by.ensures ∙ c.if-not-is_narrowed_by.true)

pub loop-field-preserved : goal.loop-field-preserved
loop-field-preserved c =
    let has = base_has c.args.self in
    well_more (λ fs. Spec.fields_narrow has (fields_view fs)) (λ f. Spec.narrows_field has (field_view f).label (field_view f).mark (field_view f).value) (λ f fs. refl)
    c.args.fields.now c.loop-field.field-index c.loop-field.invariant c.field-item.result c.loop-field-test.true c.field-item.is
    (sym c.is_narrowed_by.ensures ∙ c.if-not-is_narrowed_by.false)

pub returns : goal.returns
returns c =
    let has = base_has c.args.self in
    all_well (λ fs. Spec.fields_narrow has (fields_view fs)) (λ f. Spec.narrows_field has (field_view f).label (field_view f).mark (field_view f).value) (λ f fs. refl)
    c.args.fields.now c.loop-field.field-index c.loop-field.invariant refl c.loop-field-test.false
