use Rattle.std.proofs.Common.{◌++◌, map, take, refl, sym, ap, ◌∙◌, append_assoc}
use Rattle.std.proofs.lemmas.List.{take_all}
use Rattle.cs_grammar.specs.View.{field_view, fields_view}
use Rattle.cs_plain.proofs.Folds.{gathered_more}
use Rattle.cs_selectors.specs.Checks.{field_at, only_for}
use Rattle.cs_selectors.specs.Reached.{declarations_for}
use Rattle.cs_selectors.proofs.Parts.{for_parts}
use Rattle.cs_selectors.proofs.reached.add_declarations.Goals as goal

pub loop-field-preserved : goal.loop-field-preserved
loop-field-preserved c =
    let xs = c.args.fields.now in
    let i = c.loop-field.field-index in
    let x = c.field-item.result in
    let s = c.args.label.now in
    let before = map field_at c.args.found.now.items in
    let done = declarations_for s (fields_view (take i xs)) in
    let one = only_for s (field_view x) in
    let more = gathered_more (λ ys. declarations_for s (fields_view ys)) (λ f. only_for s (field_view f)) refl (for_parts s) xs i x c.loop-field-test.true c.field-item.is in
    c.in_ok-add_declaration.ensures ∙ ap (λ fs. fs ++ one) c.loop-field.invariant ∙ append_assoc before done one ∙ ap (λ fs. before ++ fs) (sym more)

pub returns : goal.returns
returns c = c.loop-field.invariant ∙ ap (λ ys. map field_at c.args.found.now.items ++ declarations_for c.args.label.now (fields_view ys)) (take_all c.loop-field.field-index c.args.fields.now c.loop-field-test.false)
