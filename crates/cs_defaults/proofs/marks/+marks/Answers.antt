use Rattle.std.proofs.Common.{rules, ◌≡◌, ℕ, ◌+◌, Bool, true, false, ◌&&◌, not, List, [], ◌∷◌, ◌++◌, Some, slice_get, cond, drop, refl, sym, ap, subst, ◌∙◌}
use Rattle.std.proofs.lemmas.Result.{err_from_is_err_and}
use Rattle.cs_grammar.specs.View.{expr_view, exprs_view, fields_view, end_view}
use Rattle.cs_grammar.specs.declared.ast.Field.{Field}
use Rattle.cs_grammar.specs.Tree.{Tree, Trees, more}
use Rattle.cs_grammar.proofs.Views.{view-And, view-Paren, view-Struct, view-List, view-value}
use Rattle.cs_defaults.specs.Checks.{Finds}
use Rattle.cs_defaults.specs.Marks.{misplaced, misplaced_each, misplaced_operands, misplaced_fields, misplaced_end, is_default, is_marked}
use Rattle.cs_defaults.proofs.Found.{at_place, first_left, first_here, none_more}
use Rattle.cs_defaults.proofs.marks.+marks.Goals as goal
use Rattle.cs_defaults.proofs.marks.+marks.Goals.{check_operands-then-may_mark, check_operands-else-may_mark}

field_parts : (f : Field) (fs : List Field) → misplaced_fields (fields_view (f ∷ fs)) ≡ misplaced true (expr_view f.value) ++ misplaced_fields (fields_view fs)
field_parts f fs = ap (λ e. misplaced true e ++ misplaced_fields (fields_view fs)) (view-value f)

pub check_each-returns-in_err-check_marks : goal.check_each-returns-in_err-check_marks
check_each-returns-in_err-check_marks t c =
    let w = c.args.are_whole in
    let h = c.in_err-check_marks.ensures in
    let p = err_from_is_err_and c.from_residual.result c.from_residual.ensures.1 in
    rw (p.1, p.2) (first_here (λ es. misplaced_each w (exprs_view es)) (λ e. misplaced w (expr_view e)) (λ e es. refl) c.args.exprs.now c.loop-expr.expr-index c.expr-item.result c.loop-expr-test.true c.expr-item.is c.loop-expr.invariant _ h)

pub check_fields-returns-in_err-check_marks : goal.check_fields-returns-in_err-check_marks
check_fields-returns-in_err-check_marks t c =
    let h = c.in_err-check_marks.ensures in
    let p = err_from_is_err_and c.from_residual.result c.from_residual.ensures.1 in
    rw (p.1, p.2) (first_here (λ fs. misplaced_fields (fields_view fs)) (λ f. misplaced true (expr_view f.value)) field_parts c.args.fields.now c.loop-field.field-index c.field-item.result c.loop-field-test.true c.field-item.is c.loop-field.invariant _ h)

pub check_fields-loop-field-preserved : goal.check_fields-loop-field-preserved
check_fields-loop-field-preserved t c = none_more (λ fs. misplaced_fields (fields_view fs)) (λ f. misplaced true (expr_view f.value)) field_parts c.args.fields.now c.loop-field.field-index c.field-item.result c.loop-field-test.true c.field-item.is c.loop-field.invariant c.in_ok-check_marks.ensures

pub check_marks-returns-in_err-check_each-in-List : goal.check_marks-returns-in_err-check_each-in-List
check_marks-returns-in_err-check_each-in-List t c =
    let v = c.in-List.front in
    let h = c.in_err-check_each-in-List.ensures in
    let p = err_from_is_err_and c.from_residual.result c.from_residual.ensures.1 in
    let is = ap (λ e. misplaced c.args.is_whole (expr_view e)) c.in-List.is ∙ ap (misplaced c.args.is_whole) (view-List v c.in-List.end) in
    rw (p.1, p.2, is) (first_left (misplaced_each true (exprs_view v.items)) (misplaced_end (end_view c.in-List.end)) _ (ap (λ es. slice_get (misplaced_each true (exprs_view es)) 0) (sym c.deref-in-List.ensures.value) ∙ h))

-- an operand that may not be marked, or is no default
operand_here : (may : Bool) (e : Tree) (es : Trees) (o : ℕ) → (may && is_default e) ≡ false → slice_get (misplaced false e) 0 ≡ Some o → slice_get (misplaced_operands may (more e es)) 0 ≡ Some o
operand_here may e es o isnt h =
    first_left (cond (may && is_default e) [] (misplaced false e)) (misplaced_operands (may && not (is_marked e)) es) o (ap (λ b. slice_get (cond b [] (misplaced false e)) 0) isnt ∙ h)

pub check_operands-returns-in_err-check_marks : goal.check_operands-returns-in_err-check_marks
check_operands-returns-in_err-check_marks t c =
    let xs = c.args.operands.now in
    let i = c.loop-operand.operand-index in
    let may = c.loop-operand.may_mark in
    let x = c.operand-item.result in
    let p = err_from_is_err_and c.from_residual.result c.from_residual.ensures.1 in
    let isnt : (may && is_default (expr_view x)) ≡ false = elim c.if-may_mark.branch [
      | check_operands-then-may_mark w ↦ rw w.if-may_mark.true (sym w.is_default.ensures ∙ sym w.value-is ∙ search (rules, c.if-not-is_default.true))
      | check_operands-else-may_mark w ↦ rw w.if-may_mark.false refl
    ] in
    let here = operand_here may (expr_view x) (exprs_view (drop (i + 1) xs)) _ isnt c.in_err-check_marks.ensures in
    rw (p.1, p.2) (ap (λ os. slice_get os 0) (c.loop-operand.invariant ∙ ap (λ es. misplaced_operands may (exprs_view es)) (at_place xs i x c.loop-operand-test.true c.operand-item.is)) ∙ here)

-- ---- an expression

pub check_marks-returns-in-And : goal.check_marks-returns-in-And
check_marks-returns-in-And t c =
    let is = ap (misplaced c.args.is_whole) (ap expr_view c.in-And.is ∙ view-And c.in-And.operands) in
    subst (λ os. Finds c.check_each.result os) (ap (λ es. misplaced_each false (exprs_view es)) c.deref.ensures.value ∙ sym is) c.check_each.ensures

pub check_marks-returns-in-Paren : goal.check_marks-returns-in-Paren
check_marks-returns-in-Paren t c =
    let w = c.args.is_whole in
    let is = ap (misplaced w) (ap expr_view c.in-Paren.is ∙ view-Paren c.in-Paren.inside) in
    subst (λ os. Finds c.check_marks.result os) (ap (λ e. misplaced w (expr_view e)) c.deref-in-Paren.ensures ∙ sym is) c.check_marks.ensures

pub check_marks-returns-in-Struct : goal.check_marks-returns-in-Struct
check_marks-returns-in-Struct t c =
    let is = ap (misplaced c.args.is_whole) (ap expr_view c.in-Struct.is ∙ view-Struct c.in-Struct.at c.in-Struct.fields c.in-Struct.opened) in
    subst (λ os. Finds c.check_fields.result os) (ap (λ fs. misplaced_fields (fields_view fs)) c.deref-in-Struct.ensures.value ∙ sym is) c.check_fields.ensures

pub check_marks-returns-in_ok-check_each-in-List : goal.check_marks-returns-in_ok-check_each-in-List
check_marks-returns-in_ok-check_each-in-List t c =
    let w = c.args.is_whole in
    let end = misplaced_end (end_view c.in-List.end) in
    let is = ap (misplaced w) (ap expr_view c.in-List.is ∙ view-List c.in-List.front c.in-List.end) in
    let front = ap (λ es. misplaced_each true (exprs_view es)) (sym c.deref-in-List.ensures.value) ∙ c.in_ok-check_each-in-List.ensures in
    subst (λ os. Finds c.check_end.result os) (sym (is ∙ ap (λ os. os ++ end) front)) c.check_end.ensures

pub check_each-loop-expr-preserved : goal.check_each-loop-expr-preserved
check_each-loop-expr-preserved t c =
    let w = c.args.are_whole in
    none_more (λ es. misplaced_each w (exprs_view es)) (λ e. misplaced w (expr_view e)) (λ e es. refl) c.args.exprs.now c.loop-expr.expr-index c.expr-item.result c.loop-expr-test.true c.expr-item.is
    c.loop-expr.invariant c.in_ok-check_marks.ensures
