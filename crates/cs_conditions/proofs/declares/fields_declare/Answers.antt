use Rattle.std.proofs.Common.{refl, sym, ◌∙◌}
use Rattle.cs_grammar.specs.View.{field_view, fields_view}
use Rattle.cs_conditions.specs.Checks.{field_declares}
use Rattle.cs_conditions.specs.Faults.{fields_declare}
use Rattle.cs_conditions.proofs.Parts.{field_declares_parts}
use Rattle.cs_conditions.proofs.Walks.{none_more, one_here, none_at_all}
use Rattle.cs_conditions.proofs.declares.fields_declare.Goals as goal

pub returns-then-field_declares : goal.returns-then-field_declares
returns-then-field_declares c =
    one_here (λ fs. fields_declare c.args.with_default c.args.label.now (fields_view fs)) (λ f. field_declares c.args.with_default c.args.label.now (field_view f))
    (field_declares_parts c.args.with_default c.args.label.now) c.args.fields.now c.loop-field.field-index c.loop-field.invariant
    c.field-item.result c.loop-field-test.true c.field-item.is (sym c.field_declares.ensures ∙ c.if-field_declares.true)

pub loop-field-preserved : goal.loop-field-preserved
loop-field-preserved c =
    none_more (λ fs. fields_declare c.args.with_default c.args.label.now (fields_view fs)) (λ f. field_declares c.args.with_default c.args.label.now (field_view f))
    (field_declares_parts c.args.with_default c.args.label.now) c.args.fields.now c.loop-field.field-index c.loop-field.invariant
    c.field-item.result c.loop-field-test.true c.field-item.is (sym c.field_declares.ensures ∙ c.if-field_declares.false)

pub returns : goal.returns
returns c =
    none_at_all (λ fs. fields_declare c.args.with_default c.args.label.now (fields_view fs)) (λ f. field_declares c.args.with_default c.args.label.now (field_view f))
    (field_declares_parts c.args.with_default c.args.label.now) c.args.fields.now c.loop-field.field-index c.loop-field.invariant
    refl c.loop-field-test.false
