use Rattle.std.proofs.Common.{◌++◌, map, take, refl, sym, ap, ◌∙◌, append_assoc}
use Rattle.std.proofs.lemmas.List.{take_all}
use Rattle.cs_grammar.specs.View.{expr_view, exprs_view, fields_view, declaration_view, declarations_view}
use Rattle.cs_plain.proofs.Folds.{gathered_more}
use Rattle.cs_selectors.specs.Checks.{use_view, uses_seen}
use Rattle.cs_selectors.specs.Uses as Spec
use Rattle.cs_selectors.proofs.Parts.{uses_field_parts, uses_parts}
use Rattle.cs_selectors.proofs.uses.+uses.Goals as goal

pub add_each-loop-expr-preserved : goal.add_each-loop-expr-preserved
add_each-loop-expr-preserved t c =
    let xs = c.args.exprs.now in
    let i = c.loop-expr.expr-index in
    let x = c.expr-item.result in
    let before = map use_view c.args.found.now.items in
    let more = gathered_more (λ ys. Spec.uses_each c.args.file (exprs_view ys)) (λ y. Spec.uses c.args.file (expr_view y)) refl (λ e es. refl) xs i x c.loop-expr-test.true c.expr-item.is in
    c.in_ok-add_uses.ensures ∙ ap (λ us. us ++ Spec.uses c.args.file (expr_view x)) c.loop-expr.invariant ∙ append_assoc before (Spec.uses_each c.args.file (exprs_view (take i xs))) (Spec.uses c.args.file (expr_view x)) ∙ ap (λ us. before ++ us) (sym more)

pub add_each-returns : goal.add_each-returns
add_each-returns t c =
    c.loop-expr.invariant ∙ ap (λ ys. map use_view c.args.found.now.items ++ Spec.uses_each c.args.file (exprs_view ys)) (take_all c.loop-expr.expr-index c.args.exprs.now c.loop-expr-test.false)

pub add_fields-loop-field-preserved : goal.add_fields-loop-field-preserved
add_fields-loop-field-preserved t c =
    let xs = c.args.fields.now in
    let i = c.loop-field.field-index in
    let x = c.field-item.result in
    let before = map use_view c.args.found.now.items in
    let more = gathered_more (λ ys. Spec.uses_fields c.args.file (fields_view ys)) (λ y. Spec.uses c.args.file (expr_view y.value)) refl (uses_field_parts c.args.file) xs i x c.loop-field-test.true c.field-item.is in
    c.in_ok-add_uses.ensures ∙ ap (λ us. us ++ Spec.uses c.args.file (expr_view x.value)) c.loop-field.invariant ∙ append_assoc before (Spec.uses_fields c.args.file (fields_view (take i xs))) (Spec.uses c.args.file (expr_view x.value)) ∙ ap (λ us. before ++ us) (sym more)

pub add_fields-returns : goal.add_fields-returns
add_fields-returns t c =
    c.loop-field.invariant ∙ ap (λ ys. map use_view c.args.found.now.items ++ Spec.uses_fields c.args.file (fields_view ys)) (take_all c.loop-field.field-index c.args.fields.now c.loop-field-test.false)

pub add_declarations-loop-declaration-preserved : goal.add_declarations-loop-declaration-preserved
add_declarations-loop-declaration-preserved t c =
    let xs = c.args.declarations.now in
    let i = c.loop-declaration.declaration-index in
    let x = c.declaration-item.result in
    let before = map use_view c.args.found.now.items in
    let more = gathered_more (λ ys. Spec.uses_declarations c.args.file (declarations_view ys)) (λ y. uses_seen c.args.file (declaration_view y)) refl (uses_parts c.args.file) xs i x c.loop-declaration-test.true c.declaration-item.is in
    c.in_ok-add_declaration.ensures ∙ ap (λ us. us ++ uses_seen c.args.file (declaration_view x)) c.loop-declaration.invariant ∙ append_assoc before (Spec.uses_declarations c.args.file (declarations_view (take i xs))) (uses_seen c.args.file (declaration_view x)) ∙ ap (λ us. before ++ us) (sym more)

pub add_declarations-returns : goal.add_declarations-returns
add_declarations-returns t c =
    c.loop-declaration.invariant ∙ ap (λ ys. map use_view c.args.found.now.items ++ Spec.uses_declarations c.args.file (declarations_view ys)) (take_all c.loop-declaration.declaration-index c.args.declarations.now c.loop-declaration-test.false)
