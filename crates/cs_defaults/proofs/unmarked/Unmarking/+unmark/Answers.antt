use Rattle.std.proofs.Common.{rules, ◌≡◌, ℕ, List, [], ◌∷◌, Bool, map, refl, sym, ap, ap₂, ◌∙◌, subst}
use Rattle.std.proofs.lemmas.List.{take_all}
use Rattle.std.specs.Result.{IfOk}
use Rattle.cs_grammar.specs.View.{expr_view, exprs_view, trees_of, fields_of, field_view, fields_view, Seen, wide_view}
use Rattle.cs_grammar.specs.Tree.{Fields, more, field, conjunction, paren, struct, list, wide}
use Rattle.cs_grammar.specs.declared.ast.Expr.{Expr}
use Rattle.cs_grammar.specs.declared.ast.Field.{Field}
use Rattle.cs_grammar.proofs.Views.{view-And, view-Paren, view-Struct, view-List, view-Wide, view-Marked, view-Shut}
use Rattle.cs_defaults.specs.Unmarked as Spec
use Rattle.cs_defaults.specs.Unmarked.{unmarked_each, unmarked_fields}
use Rattle.cs_defaults.specs.Checks.{unmarked_seen}
use Rattle.cs_defaults.proofs.Found.{map_pushed}
use Rattle.cs_defaults.proofs.unmarked.Unmarking.+unmark.Goals as goal

abbrev put : Seen → Fields → Fields
put f fs = field f.label f.mark f.value fs

module _ (has : List ℕ → Bool) where
  trees : (es : List Expr) → trees_of (map (λ e. Spec.unmarked has (expr_view e)) es) ≡ unmarked_each has (exprs_view es)
  trees [] = refl
  trees (e ∷ es) = ap (λ ts. more (Spec.unmarked has (expr_view e)) ts) (trees es)

  fields : (fs : List Field) → fields_of (map (λ f. unmarked_seen has (field_view f)) fs) ≡ unmarked_fields has (fields_view fs)
  fields [] = refl
  fields (f ∷ fs) = ap (λ gs. put (unmarked_seen has (field_view f)) gs) (fields fs)

pub unmarked_each-loop-expr-preserved : goal.unmarked_each-loop-expr-preserved
unmarked_each-loop-expr-preserved t c has tells =
    map_pushed (λ e. Spec.unmarked has (expr_view e)) expr_view c.args.exprs.now c.loop-expr.expr-index c.expr-item.result c.loop-expr-test.true c.expr-item.is _ _ _ c.in_ok-push.ensures.items (c.loop-expr.invariant has tells) (c.in_ok-unmarked-2.ensures has tells)

pub unmarked_fields-loop-field-preserved : goal.unmarked_fields-loop-field-preserved
unmarked_fields-loop-field-preserved t c has tells =
    map_pushed (λ f. unmarked_seen has (field_view f)) field_view c.args.fields.now c.loop-field.field-index c.field-item.result c.loop-field-test.true c.field-item.is _ _ _ c.in_ok-push.ensures.items (c.loop-field.invariant has tells) (c.in_ok-unmarked_field.ensures has tells)

pub unmarked_each-returns : goal.unmarked_each-returns
unmarked_each-returns t c has tells =
    let xs = c.args.exprs.now in
    ap trees_of (c.loop-expr.invariant has tells ∙ ap (map (λ e. Spec.unmarked has (expr_view e))) (take_all c.loop-expr.expr-index xs c.loop-expr-test.false)) ∙ trees has xs

pub unmarked_fields-returns : goal.unmarked_fields-returns
unmarked_fields-returns t c has tells =
    let xs = c.args.fields.now in
    ap fields_of (c.loop-field.invariant has tells ∙ ap (map (λ f. unmarked_seen has (field_view f))) (take_all c.loop-field.field-index xs c.loop-field-test.false)) ∙ fields has xs

pub unmarked-returns-in-Wide : goal.unmarked-returns-in-Wide
unmarked-returns-in-Wide t c has tells =
    let is = ap expr_view c.in-Wide.is ∙ view-Wide c.in-Wide.form in
    subst (λ e. IfOk c.unmarked_form.result (λ f. expr_view f ≡ Spec.unmarked has e)) (sym is) (c.unmarked_form.ensures has tells)

pub unmarked-returns-in_ok-end-in-List : goal.unmarked-returns-in_ok-end-in-List
unmarked-returns-in_ok-end-in-List t c has tells =
    let is = ap (Spec.unmarked has) (ap expr_view c.in-List.is ∙ view-List c.in-List.front c.in-List.end) in
    let front = c.in_ok-front-in-List.ensures has tells ∙ ap (λ es. unmarked_each has (exprs_view es)) c.deref-in-List.ensures.value in
    view-List c.in_ok-front-in-List.front c.in_ok-end-in-List.end ∙ ap₂ list front (c.in_ok-end-in-List.ensures has tells) ∙ sym is

pub unmarked_form-returns-in-Marked : goal.unmarked_form-returns-in-Marked
unmarked_form-returns-in-Marked t c has tells =
    let is : Spec.unmarked has (wide (wide_view c.args.form.now)) ≡ Spec.unmarked has (expr_view c.deref.result.now) = search (rules, view-Marked, c.deref.ensures, c.in-Marked.is) in
    subst (λ e. IfOk c.unmarked.result (λ f. expr_view f ≡ e)) (sym is) (c.unmarked.ensures has tells)

-- ---- other forms

pub unmarked-returns-in_ok-unmarked_each-in-And : goal.unmarked-returns-in_ok-unmarked_each-in-And
unmarked-returns-in_ok-unmarked_each-in-And t c has tells =
    let is = ap (Spec.unmarked has) (ap expr_view c.in-And.is ∙ view-And c.in-And.operands) in
    let made = c.in_ok-unmarked_each-in-And.ensures has tells ∙ ap (λ es. unmarked_each has (exprs_view es)) c.deref.ensures.value in
    view-And c.in_ok-unmarked_each-in-And.field-0 ∙ ap conjunction made ∙ sym is

pub unmarked-returns-in_ok-new-in-Paren : goal.unmarked-returns-in_ok-new-in-Paren
unmarked-returns-in_ok-new-in-Paren t c has tells =
    let is = ap (Spec.unmarked has) (ap expr_view c.in-Paren.is ∙ view-Paren c.in-Paren.inside) in
    let made = c.in_ok-inside-in-Paren.ensures has tells ∙ ap (λ e. Spec.unmarked has (expr_view e)) c.deref-in-Paren.ensures in
    view-Paren c.in_ok-new-in-Paren.field-0 ∙ ap (λ e. paren (expr_view e)) c.in_ok-new-in-Paren.ensures.ok ∙ ap paren made ∙ sym is

pub unmarked-returns-in_ok-fields-in-Struct : goal.unmarked-returns-in_ok-fields-in-Struct
unmarked-returns-in_ok-fields-in-Struct t c has tells =
    let o = c.in-Struct.at in
    let opened = c.in-Struct.opened in
    let is = ap (Spec.unmarked has) (ap expr_view c.in-Struct.is ∙ view-Struct o c.in-Struct.fields opened) in
    let made = c.in_ok-fields-in-Struct.ensures has tells ∙ ap (λ fs. unmarked_fields has (fields_view fs)) c.deref-in-Struct.ensures.value in
    view-Struct o c.in_ok-fields-in-Struct.fields opened ∙ ap (λ fs. struct o fs opened) made ∙ sym is

pub unmarked_form-returns-in_ok-new-in-Shut : goal.unmarked_form-returns-in_ok-new-in-Shut
unmarked_form-returns-in_ok-new-in-Shut t c has tells =
    let is = ap (λ w. Spec.unmarked has (wide w)) (ap wide_view c.in-Shut.is ∙ view-Shut c.in-Shut.at c.in-Shut.value) in
    let made = c.in_ok-value-in-Shut.ensures has tells ∙ ap (λ e. Spec.unmarked has (expr_view e)) c.deref-in-Shut.ensures in
    view-Paren c.in_ok-new-in-Shut.field-0 ∙ ap (λ e. paren (expr_view e)) c.in_ok-new-in-Shut.ensures.ok ∙ ap paren made ∙ sym is
