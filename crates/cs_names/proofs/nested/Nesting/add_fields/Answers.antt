use Rattle.std.proofs.Common.{◌++◌, map, take, refl, sym, ap, ◌∙◌, append_assoc}
use Rattle.std.proofs.lemmas.List.{take_all}
use Rattle.cs_grammar.specs.View.{field_view, fields_view}
use Rattle.cs_plain.proofs.Folds.{gathered_more}
use Rattle.cs_names.specs.Checks.{path_view}
use Rattle.cs_names.specs.Nested.{nested_by, nested_in_fields}
use Rattle.cs_names.proofs.nested.Nesting.add_fields.Goals as goal

pub loop-field-preserved : goal.loop-field-preserved
loop-field-preserved c =
    let xs = c.args.fields.now in
    let i = c.loop-field.field-index in
    let x = c.field-item.result in
    let file = c.args.self.now.file in
    let s = c.args.outer.now in
    let before = map path_view c.args.found.now.items in
    let done = nested_in_fields file s (fields_view (take i xs)) in
    let one = nested_by file s (field_view x).label in
    let more = gathered_more (λ ys. nested_in_fields file s (fields_view ys)) (λ y. nested_by file s (field_view y).label) refl (λ f fs. refl) xs i x c.loop-field-test.true c.field-item.is in
    c.in_ok-add_field.ensures ∙ ap (λ ds. ds ++ one) c.loop-field.invariant ∙ append_assoc before done one ∙ ap (λ ds. before ++ ds) (sym more)

pub returns : goal.returns
returns c =
    c.loop-field.invariant
    ∙ ap (λ ys. map path_view c.args.found.now.items ++ nested_in_fields c.args.self.now.file c.args.outer.now (fields_view ys)) (take_all c.loop-field.field-index c.args.fields.now c.loop-field-test.false)
