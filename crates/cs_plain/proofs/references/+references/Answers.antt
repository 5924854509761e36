use Rattle.std.proofs.Common.{rules, ◌≡◌, [], ◌∷◌, ◌++◌, take, refl, sym, ap, ◌∙◌, subst, append_assoc}
use Rattle.std.proofs.lemmas.List.{take_all}
use Rattle.cs_grammar.specs.declared.ast.Expr as Exprs
use Rattle.cs_grammar.specs.View.{expr_view, exprs_view, fields_view, declaration_view, declarations_view, end_view, wide_view}
use Rattle.cs_plain.proofs.Folds.{gathered_more}
use Rattle.cs_plain.specs.Checks.{references_seen}
use Rattle.cs_plain.specs.References.{TellsTexts}
use Rattle.cs_plain.specs.References as Spec
use Rattle.cs_plain.proofs.Parts.{references_field_parts, references_parts}
use Rattle.cs_plain.proofs.Texts.{texts_put, both_added}
use Rattle.cs_plain.proofs.references.+references.Goals as goal

pub add_each-loop-expr-preserved : goal.add_each-loop-expr-preserved
add_each-loop-expr-preserved t c ss told =
    let xs = c.args.exprs.now in
    let i = c.loop-expr.expr-index in
    let x = c.expr-item.result in
    let done = Spec.references_each c.args.is_all (exprs_view (take i xs)) in
    let more = gathered_more (λ ys. Spec.references_each c.args.is_all (exprs_view ys)) (λ y. Spec.references c.args.is_all (expr_view y)) refl (λ e es. refl) xs i x c.loop-expr-test.true c.expr-item.is in
    subst (TellsTexts c.add_references.new.found) (append_assoc ss done (Spec.references c.args.is_all (expr_view x)) ∙ ap (λ rs. ss ++ rs) (sym more))
    (c.in_ok-add_references.ensures (ss ++ done) (c.loop-expr.invariant ss told))

pub add_each-returns : goal.add_each-returns
add_each-returns t c ss told =
    subst (λ ys. TellsTexts c.loop-expr.found (ss ++ Spec.references_each c.args.is_all (exprs_view ys))) (take_all c.loop-expr.expr-index c.args.exprs.now c.loop-expr-test.false) (c.loop-expr.invariant ss told)

pub add_fields-loop-field-preserved : goal.add_fields-loop-field-preserved
add_fields-loop-field-preserved t c ss told =
    let xs = c.args.fields.now in
    let i = c.loop-field.field-index in
    let x = c.field-item.result in
    let done = Spec.references_fields c.args.is_all (fields_view (take i xs)) in
    let more = gathered_more (λ ys. Spec.references_fields c.args.is_all (fields_view ys)) (λ y. Spec.references c.args.is_all (expr_view y.value)) refl (references_field_parts c.args.is_all) xs i x c.loop-field-test.true c.field-item.is in
    subst (TellsTexts c.add_references.new.found) (append_assoc ss done (Spec.references c.args.is_all (expr_view x.value)) ∙ ap (λ rs. ss ++ rs) (sym more))
    (c.in_ok-add_references.ensures (ss ++ done) (c.loop-field.invariant ss told))

pub add_fields-returns : goal.add_fields-returns
add_fields-returns t c ss told =
    subst (λ ys. TellsTexts c.loop-field.found (ss ++ Spec.references_fields c.args.is_all (fields_view ys))) (take_all c.loop-field.field-index c.args.fields.now c.loop-field-test.false) (c.loop-field.invariant ss told)

pub add_declarations-loop-declaration-preserved : goal.add_declarations-loop-declaration-preserved
add_declarations-loop-declaration-preserved t c ss told =
    let xs = c.args.declarations.now in
    let i = c.loop-declaration.declaration-index in
    let x = c.declaration-item.result in
    let done = Spec.references_declarations c.args.is_all (declarations_view (take i xs)) in
    let more = gathered_more (λ ys. Spec.references_declarations c.args.is_all (declarations_view ys)) (λ y. references_seen c.args.is_all (declaration_view y)) refl (references_parts c.args.is_all) xs i x c.loop-declaration-test.true c.declaration-item.is in
    subst (TellsTexts c.add_declaration.new.found) (append_assoc ss done (references_seen c.args.is_all (declaration_view x)) ∙ ap (λ rs. ss ++ rs) (sym more))
    (c.in_ok-add_declaration.ensures (ss ++ done) (c.loop-declaration.invariant ss told))

pub add_declarations-returns : goal.add_declarations-returns
add_declarations-returns t c ss told =
    subst (λ ys. TellsTexts c.loop-declaration.found (ss ++ Spec.references_declarations c.args.is_all (declarations_view ys))) (take_all c.loop-declaration.declaration-index c.args.declarations.now c.loop-declaration-test.false) (c.loop-declaration.invariant ss told)

pub add_references-returns-in-Struct : goal.add_references-returns-in-Struct
add_references-returns-in-Struct t c =
    let is : Spec.references c.args.is_all (expr_view c.args.expr.now) ≡ Spec.references_fields c.args.is_all (fields_view c.deref-in-Struct.result.now) = search (rules, Exprs.the_lemmas) in
    rw is c.add_fields.ensures

pub add_references-returns-in-And : goal.add_references-returns-in-And
add_references-returns-in-And t c =
    let is : Spec.references c.args.is_all (expr_view c.args.expr.now) ≡ Spec.references_each c.args.is_all (exprs_view c.deref-in-And.result.now) = search (rules, Exprs.the_lemmas) in
    rw is c.add_each-in-And.ensures

pub add_references-returns-in_ok-add_each-in-List : goal.add_references-returns-in_ok-add_each-in-List
add_references-returns-in_ok-add_each-in-List t c =
    let front = Spec.references_each c.args.is_all (exprs_view c.deref-in-List.result.now) in
    let end = Spec.references_end c.args.is_all (end_view c.in-List.end) in
    let is : Spec.references c.args.is_all (expr_view c.args.expr.now) ≡ front ++ end = search (rules, Exprs.the_lemmas) in
    both_added c.add_end.result c.args.found.now c.add_each.new.found c.add_end.new.found front end (Spec.references c.args.is_all (expr_view c.args.expr.now)) is c.in_ok-add_each-in-List.ensures c.add_end.ensures

pub add_references-returns-in_ok-insert-in-Reference : goal.add_references-returns-in_ok-insert-in-Reference
add_references-returns-in_ok-insert-in-Reference t c ss told =
    let is : c.as_str.result.now ∷ [] ≡ Spec.references c.args.is_all (expr_view c.args.expr.now) = search (rules, Exprs.the_lemmas) in
    let more = texts_put c.args.found.now c.insert.new.self c.as_str.result ss told c.in_ok-insert-in-Reference.ensures.updates in
    subst (λ rs. TellsTexts c.insert.new.self (ss ++ rs)) is more

pub add_wide-returns-in_ok-insert-in-Selected : goal.add_wide-returns-in_ok-insert-in-Selected
add_wide-returns-in_ok-insert-in-Selected t c ss told =
    let is : c.as_str.result.now ∷ [] ≡ Spec.references_wide c.args.is_all (wide_view c.args.form.now) = search (rules, Exprs.the_lemmas) in
    let more = texts_put c.args.found.now c.insert.new.self c.as_str.result ss told c.in_ok-insert-in-Selected.ensures.updates in
    subst (λ rs. TellsTexts c.insert.new.self (ss ++ rs)) is more

pub add_wide-returns-in-Merged : goal.add_wide-returns-in-Merged
add_wide-returns-in-Merged t c =
    let is : Spec.references_wide c.args.is_all (wide_view c.args.form.now) ≡ Spec.references_declarations c.args.is_all (declarations_view c.deref.result.now) = search (rules, Exprs.the_lemmas) in
    rw is c.add_declarations.ensures
