use Rattle.std.proofs.Common.{◌≡◌, ℕ, Bool, List, ◌∷◌, ◌++◌, string_bytes, refl, sym, ap, ap₂, ◌∙◌, subst, append_assoc}
use Rattle.std.proofs.lemmas.Result.{err_from_is_err_and}
use Rattle.cs_grammar.specs.View.{expr_view, exprs_view, fields_view, end_view, field_view}
use Rattle.cs_grammar.specs.declared.ast.Field.{Field}
use Rattle.cs_grammar.proofs.Views.{view-List, view-value, view-text, view-mark}
use Rattle.cs_defaults.specs.Absent.{clashes, clashes_each, clashes_fields, clashes_end, excluded}
use Rattle.cs_defaults.specs.Checks.{Fails, FindsIn}
use Rattle.cs_defaults.proofs.Found.{none_left, fails_left, fails_right, none_more, whole_from}
use Rattle.cs_defaults.proofs.absent.Clashes.+clashes.Goals as goal

-- the defaults of a declaration that could be excluded: its own, and those within its value
abbrev of_field : (List ℕ → Bool) → Bool → List (List ℕ) → Field → List ℕ
of_field has every absent f = excluded has every absent (string_bytes f.label) f.mark (expr_view f.value) ++ clashes has (expr_view f.value)

module _ (has : List ℕ → Bool) (every : Bool) (absent : List (List ℕ)) where
  field_parts : (f : Field) (fs : List Field) → clashes_fields has every absent (fields_view (f ∷ fs)) ≡ of_field has every absent f ++ clashes_fields has every absent (fields_view fs)
  field_parts f fs =
      ap (λ s. excluded has every absent s (field_view f).mark (field_view f).value ++ (clashes has (field_view f).value ++ clashes_fields has every absent (fields_view fs))) (view-text f)
      ∙ ap₂ (λ m e. excluded has every absent (string_bytes f.label) m e ++ (clashes has e ++ clashes_fields has every absent (fields_view fs))) (view-mark f) (view-value f)
      ∙ sym (append_assoc (excluded has every absent (string_bytes f.label) f.mark (expr_view f.value)) (clashes has (expr_view f.value)) (clashes_fields has every absent (fields_view fs)))

pub check-returns-in_err-check_each-in-List : goal.check-returns-in_err-check_each-in-List
check-returns-in_err-check_each-in-List t c has tells =
    let v = c.in-List.front in
    let file = c.args.self.now.file in
    let p = err_from_is_err_and c.from_residual-in_err-check_each-in-List.result c.from_residual-in_err-check_each-in-List.ensures.1 in
    let e = c.in_err-check_each-in-List.field-0.0 in
    let is = ap (λ e. clashes has (expr_view e)) c.in-List.is ∙ ap (clashes has) (view-List v c.in-List.end) in
    let here = subst (λ es. Fails e file (clashes_each has (exprs_view es))) c.deref-in-List.ensures.value (c.in_err-check_each-in-List.ensures has tells) in
    rw (p.1, p.2, is) (fails_left e file (clashes_each has (exprs_view v.items)) (clashes_end has (end_view c.in-List.end)) here)

pub check_each-returns-in_err-check : goal.check_each-returns-in_err-check
check_each-returns-in_err-check t c has tells =
    let file = c.args.self.now.file in
    let p = err_from_is_err_and c.from_residual.result c.from_residual.ensures.1 in
    rw (p.1, p.2) (whole_from (λ es. clashes_each has (exprs_view es)) (λ e. clashes has (expr_view e)) (λ e es. refl) c.args.exprs.now c.loop-expr.expr-index c.expr-item.result c.loop-expr-test.true c.expr-item.is (c.loop-expr.invariant has tells) (Fails c.in_err-check.field-0.0 file) (fails_left c.in_err-check.field-0.0 file) (c.in_err-check.ensures has tells))

pub check_each-loop-expr-preserved : goal.check_each-loop-expr-preserved
check_each-loop-expr-preserved t c has tells =
    none_more (λ es. clashes_each has (exprs_view es)) (λ e. clashes has (expr_view e)) (λ e es. refl) c.args.exprs.now c.loop-expr.expr-index c.expr-item.result c.loop-expr-test.true c.expr-item.is (c.loop-expr.invariant has tells) (c.in_ok-check.ensures has tells)

pub check_fields-returns-in_err-check_own : goal.check_fields-returns-in_err-check_own
check_fields-returns-in_err-check_own t c has absent tells told =
    let every = c.args.absences.now.has_every in
    let file = c.args.self.now.file in
    let p = err_from_is_err_and c.from_residual.result c.from_residual.ensures.1 in
    let e = c.in_err-check_own.field-0.0 in
    let f = c.field-item.result in
    let here = fails_left e file (excluded has every absent (string_bytes f.label) f.mark (expr_view f.value)) (clashes has (expr_view f.value)) (c.in_err-check_own.ensures has absent tells told) in
    rw (p.1, p.2) (whole_from (λ fs. clashes_fields has every absent (fields_view fs)) (of_field has every absent) (field_parts has every absent) c.args.fields.now c.loop-field.field-index f c.loop-field-test.true c.field-item.is (c.loop-field.invariant has absent tells told) (Fails e file) (fails_left e file) here)

pub check_fields-returns-in_err-check : goal.check_fields-returns-in_err-check
check_fields-returns-in_err-check t c has absent tells told =
    let every = c.args.absences.now.has_every in
    let file = c.args.self.now.file in
    let p = err_from_is_err_and c.from_residual-in_err-check.result c.from_residual-in_err-check.ensures.1 in
    let e = c.in_err-check.field-0.0 in
    let f = c.field-item.result in
    let here = fails_right e file (excluded has every absent (string_bytes f.label) f.mark (expr_view f.value)) (clashes has (expr_view f.value)) (c.in_ok-check_own.ensures has absent tells told) (c.in_err-check.ensures has tells) in
    rw (p.1, p.2) (whole_from (λ fs. clashes_fields has every absent (fields_view fs)) (of_field has every absent) (field_parts has every absent) c.args.fields.now c.loop-field.field-index f c.loop-field-test.true c.field-item.is (c.loop-field.invariant has absent tells told) (Fails e file) (fails_left e file) here)

pub check_fields-loop-field-preserved : goal.check_fields-loop-field-preserved
check_fields-loop-field-preserved t c has absent tells told =
    let every = c.args.absences.now.has_every in
    let f = c.field-item.result in
    let none = none_left (excluded has every absent (string_bytes f.label) f.mark (expr_view f.value)) (clashes has (expr_view f.value)) (c.in_ok-check_own.ensures has absent tells told) ∙ c.in_ok-check.ensures has tells in
    none_more (λ fs. clashes_fields has every absent (fields_view fs)) (of_field has every absent) (field_parts has every absent) c.args.fields.now c.loop-field.field-index f c.loop-field-test.true c.field-item.is (c.loop-field.invariant has absent tells told) none

pub check-returns-in_ok-check_each-in-List : goal.check-returns-in_ok-check_each-in-List
check-returns-in_ok-check_each-in-List t c has tells =
    let v = c.in-List.front in
    let end = c.in-List.end in
    let file = c.args.self.now.file in
    let is = ap (λ e. clashes has (expr_view e)) c.in-List.is ∙ ap (clashes has) (view-List v end) in
    let none = ap (λ es. clashes_each has (exprs_view es)) (sym c.deref-in-List.ensures.value) ∙ c.in_ok-check_each-in-List.ensures has tells in
    let whole = is ∙ none_left (clashes_each has (exprs_view v.items)) (clashes_end has (end_view end)) none in
    subst (λ os. FindsIn c.check_end.result file os) (sym whole) (c.check_end.ensures has tells)
