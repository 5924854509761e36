use Rattle.std.proofs.Common.{refl, sym, ◌∙◌}
use Rattle.cs_grammar.specs.View.{field_view, fields_view}
use Rattle.cs_plain.specs.Placed.{hides_label, fields_hide}
use Rattle.cs_plain.proofs.Hiding.{field_hides_parts}
use Rattle.cs_plain.proofs.Walks.{none_more, one_here, none_at_all}
use Rattle.cs_plain.proofs.placed.Placing.fields_hide.Goals as goal

pub returns-then-field_hides : goal.returns-then-field_hides
returns-then-field_hides c value hides told =
    one_here (λ xs. fields_hide value hides (fields_view xs)) (λ d. hides_label value hides (field_view d).label) (field_hides_parts value hides) c.args.fields.now c.loop-field.field-index (c.loop-field.invariant value hides told)
    c.field-item.result c.loop-field-test.true c.field-item.is (sym (c.field_hides.ensures value hides told) ∙ c.if-field_hides.true)

pub loop-field-preserved : goal.loop-field-preserved
loop-field-preserved c value hides told =
    none_more (λ xs. fields_hide value hides (fields_view xs)) (λ d. hides_label value hides (field_view d).label) (field_hides_parts value hides) c.args.fields.now c.loop-field.field-index (c.loop-field.invariant value hides told)
    c.field-item.result c.loop-field-test.true c.field-item.is (sym (c.field_hides.ensures value hides told) ∙ c.if-field_hides.false)

pub returns : goal.returns
returns c value hides told =
    none_at_all (λ xs. fields_hide value hides (fields_view xs)) (λ d. hides_label value hides (field_view d).label) (field_hides_parts value hides) c.args.fields.now c.loop-field.field-index (c.loop-field.invariant value hides told)
    refl c.loop-field-test.false
