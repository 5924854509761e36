use Rattle.std.proofs.Common.{◌≡◌, ℕ, Bool, ◌||◌, List, [], ◌∷◌, ◌++◌, refl, sym, ap, ap₂, ◌∙◌, subst}
use Rattle.std.proofs.lemmas.List.{drop_all}
use Rattle.std.proofs.lemmas.Result.{err_from_is_err_and}
use Rattle.cs_grammar.specs.View.{expr_view, exprs_view, fields_view, field_view, end_view}
use Rattle.cs_grammar.specs.declared.ast.Expr.{Expr}
use Rattle.cs_grammar.specs.declared.ast.Field.{Field}
use Rattle.cs_resolve.specs.Opening.{every_key, Named, declared_for, named_fields}
use Rattle.cs_resolve.specs.Unopened.{joined_demand_open, demands_open_of, at_fault, unopened, unopened_all, unopened_fields, unopened_end}
use Rattle.cs_resolve.specs.Refinement.{Refinements}
use Rattle.cs_resolve.specs.Checks.{Checks, TellsLabels, named_by}
use Rattle.cs_resolve.specs.declared.fault.ResolveFault.TheVariants.{NotOpened}
use Rattle.cs_resolve.proofs.Refusals.{first_left, same_first, first_here, none_more}
use Rattle.cs_resolve.proofs.Trees.{view-Struct, view-List, view-And, view-value}
use Rattle.cs_resolve.proofs.opening.OpeningCheck.+opening.Goals as goal
use Rattle.cs_resolve.proofs.opening.OpeningCheck.+opening.Goals.{check_expr-then-demanded, check_expr-else-demanded, check_expr-else-demanded-2-via-then-demanded-2+else-not-opened, check_expr-else-demanded-2-via-else-demanded-2, check_fields-then-demanded, check_fields-else-demanded}

-- the faults of operands, and of fields, part by part
operand_faults : (rs : Refinements) (demanded : Bool) (x : Expr) (xs : List Expr) → unopened_all rs demanded (exprs_view (x ∷ xs)) ≡ unopened rs demanded (expr_view x) ++ unopened_all rs demanded (exprs_view xs)
operand_faults rs demanded x xs = refl

abbrev field_faults : Refinements → Bool → List Named → Field → List ℕ
field_faults rs demanded all x = unopened rs (demanded || demands_open_of (declared_for (field_view x).label (field_view x).mark) all) (field_view x).value

field_parts : (rs : Refinements) (demanded : Bool) (all : List Named) (x : Field) (xs : List Field) → unopened_fields rs demanded all (fields_view (x ∷ xs)) ≡ field_faults rs demanded all x ++ unopened_fields rs demanded all (fields_view xs)
field_parts rs demanded all x xs = refl

pub check_all-returns-in_err-check_expr : goal.check_all-returns-in_err-check_expr
check_all-returns-in_err-check_expr t c rs held =
    let xs = c.deref-operand-items.result.now in
    let x = c.operand-item.result in
    let p = err_from_is_err_and c.from_residual.result c.from_residual.ensures.1 in
    let whole = first_here (λ es. unopened_all rs c.args.demanded (exprs_view es)) (λ e. unopened rs c.args.demanded (expr_view e)) (operand_faults rs c.args.demanded) (NotOpened c.args.self.now.file) _ xs c.loop-operand.operand-index x c.loop-operand-test.true c.operand-item.is (c.loop-operand.invariant rs held) (c.in_err-check_expr.ensures rs held) in
    rw (p.1, p.2) (same_first (NotOpened c.args.self.now.file) _ _ _ (ap (λ es. unopened_all rs c.args.demanded (exprs_view es)) c.deref-operand-items.ensures.value) whole)

pub check_expr-returns-in_err-check_all-in-List : goal.check_expr-returns-in_err-check_all-in-List
check_expr-returns-in_err-check_all-in-List t c rs held =
    let p = err_from_is_err_and c.from_residual.result c.from_residual.ensures.1 in
    let is = ap (λ e. unopened rs c.args.demanded (expr_view e)) c.in-List.is ∙ ap (unopened rs c.args.demanded) (view-List c.in-List.front c.in-List.end) in
    rw (p.1, p.2) (same_first (NotOpened c.args.self.now.file) _ _ _ (sym is) (first_left (NotOpened c.args.self.now.file) _ (unopened_all rs c.args.demanded (exprs_view c.in-List.front.items)) (unopened_end rs c.args.demanded (end_view c.in-List.end)) (c.in_err-check_all-in-List.ensures rs held)))

pub check_expr-returns-after-demanded : goal.check_expr-returns-after-demanded
check_expr-returns-after-demanded t c rs held =
    let es = c.in-And.operands.items in
    let is = ap (λ e. unopened rs c.args.demanded (expr_view e)) c.in-And.is ∙ ap (unopened rs c.args.demanded) (view-And c.in-And.operands) in
    let demanded : c.if-demanded.demanded ≡ (c.args.demanded || joined_demand_open rs (exprs_view es)) = elim c.if-demanded.branch [
      | check_expr-then-demanded w ↦ w.demanded-is ∙ w.if-demanded.true ∙ ap (λ b. b || joined_demand_open rs (exprs_view es)) (sym w.if-demanded.true)
      | check_expr-else-demanded w ↦ w.demanded-is ∙ w.joined_demand_open-demanded.ensures rs held ∙ ap (λ b. b || joined_demand_open rs (exprs_view es)) (sym w.if-demanded.false)
    ] in
    let same = ap (λ b. unopened_all rs b (exprs_view es)) demanded ∙ sym is in
    subst (λ os. Checks c.check_all.result (NotOpened c.args.self.now.file) os) same (c.check_all.ensures rs held)

pub check_expr-returns-else-demanded-2 : goal.check_expr-returns-else-demanded-2
check_expr-returns-else-demanded-2 t c rs held =
    let is = ap (λ e. unopened rs c.args.demanded (expr_view e)) c.in-Struct.is ∙ ap (unopened rs c.args.demanded) (view-Struct c.in-Struct.at c.in-Struct.fields c.in-Struct.opened) in
    let fs = fields_view c.in-Struct.fields.items in
    let none : at_fault c.args.demanded c.in-Struct.opened c.in-Struct.at ≡ [] = elim c.else-demanded-2.branch [
      | check_expr-else-demanded-2-via-then-demanded-2+else-not-opened w ↦ ap₂ (λ a o. at_fault a o c.in-Struct.at) w.if-demanded-2.true w.if-not-opened.false
      | check_expr-else-demanded-2-via-else-demanded-2 w ↦ ap (λ a. at_fault a c.in-Struct.opened c.in-Struct.at) w.if-demanded-2.false
    ] in
    let same = sym (is ∙ ap (λ os. os ++ unopened_fields rs c.args.demanded (named_fields fs) fs) none) in
    subst (λ os. Checks c.check_fields.result (NotOpened c.args.self.now.file) os) same (c.check_fields.ensures rs held)

-- the two conjunctions around a field's value
demanded_at : (rs : Refinements) (demanded here : Bool) (all : List Named) (x : Field) → here ≡ (demanded || demands_open_of (named_by x).name all) → unopened rs here (expr_view x.value) ≡ field_faults rs demanded all x
demanded_at rs demanded here all x is = ap₂ (unopened rs) is (sym (view-value x))

pub check_fields-returns-in_err-check_expr : goal.check_fields-returns-in_err-check_expr
check_fields-returns-in_err-check_expr t c rs held =
    let xs = c.deref-field-items.result.now in
    let x = c.field-item.result in
    let all = named_fields (fields_view xs) in
    let same = c.deref-field-items.ensures.value in
    let p = err_from_is_err_and c.from_residual-in_err-check_expr.result c.from_residual-in_err-check_expr.ensures.1 in
    let told = subst (λ ys. TellsLabels c.in_ok-repeats.repeats (named_fields (fields_view ys))) (sym same) c.in_ok-repeats.ensures in
    let asked = subst (λ ys. TellsLabels c.in_ok-repeats.repeats (named_fields (fields_view ys)) → c.some_demand_open-some.result ≡ demands_open_of every_key (named_fields (fields_view ys))) (sym same) c.some_demand_open-some.ensures in
    let some = asked told in
    let demanded : unopened rs c.if-demanded.demanded_here (expr_view x.value) ≡ field_faults rs c.args.demanded all x = elim c.if-demanded.branch [
      | check_fields-then-demanded w ↦ demanded_at rs c.args.demanded c.if-demanded.demanded_here all x (w.demanded_here-is ∙ w.if-demanded.true ∙ ap (λ b. b || demands_open_of (named_by x).name all) (sym w.if-demanded.true))
      | check_fields-else-demanded w ↦ demanded_at rs c.args.demanded c.if-demanded.demanded_here all x (w.demanded_here-is ∙ w.demands_open_of-demanded_here.ensures all told some ∙ ap (λ b. b || demands_open_of (named_by x).name all) (sym w.if-demanded.false))
    ] in
    let here = same_first (NotOpened c.args.self.now.file) _ _ _ demanded (c.in_err-check_expr.ensures rs held) in
    let whole = first_here (λ fs. unopened_fields rs c.args.demanded all (fields_view fs)) (field_faults rs c.args.demanded all) (field_parts rs c.args.demanded all) (NotOpened c.args.self.now.file) _ xs c.loop-field.field-index x c.loop-field-test.true c.field-item.is (c.loop-field.invariant rs held) here in
    rw (p.1, p.2) (same_first (NotOpened c.args.self.now.file) _ _ _ (ap (λ fs. unopened_fields rs c.args.demanded (named_fields (fields_view fs)) (fields_view fs)) same) whole)

pub check_fields-loop-field-preserved : goal.check_fields-loop-field-preserved
check_fields-loop-field-preserved t c rs held =
    let xs = c.deref-field-items.result.now in
    let x = c.field-item.result in
    let all = named_fields (fields_view xs) in
    let same = c.deref-field-items.ensures.value in
    let told = subst (λ ys. TellsLabels c.in_ok-repeats.repeats (named_fields (fields_view ys))) (sym same) c.in_ok-repeats.ensures in
    let asked = subst (λ ys. TellsLabels c.in_ok-repeats.repeats (named_fields (fields_view ys)) → c.some_demand_open-some.result ≡ demands_open_of every_key (named_fields (fields_view ys))) (sym same) c.some_demand_open-some.ensures in
    let some = asked told in
    let demanded : unopened rs c.if-demanded.demanded_here (expr_view x.value) ≡ field_faults rs c.args.demanded all x = elim c.if-demanded.branch [
      | check_fields-then-demanded w ↦ demanded_at rs c.args.demanded c.if-demanded.demanded_here all x (w.demanded_here-is ∙ w.if-demanded.true ∙ ap (λ b. b || demands_open_of (named_by x).name all) (sym w.if-demanded.true))
      | check_fields-else-demanded w ↦ demanded_at rs c.args.demanded c.if-demanded.demanded_here all x (w.demanded_here-is ∙ w.demands_open_of-demanded_here.ensures all told some ∙ ap (λ b. b || demands_open_of (named_by x).name all) (sym w.if-demanded.false))
    ] in
    none_more (λ fs. unopened_fields rs c.args.demanded all (fields_view fs)) (field_faults rs c.args.demanded all) (field_parts rs c.args.demanded all) xs c.loop-field.field-index x c.loop-field-test.true c.field-item.is (c.loop-field.invariant rs held) (sym demanded ∙ c.in_ok-check_expr.ensures rs held)

pub check_fields-returns : goal.check_fields-returns
check_fields-returns t c rs held =
    let xs = c.deref-field-items.result.now in
    let i = c.loop-field.field-index in
    ap (λ fs. unopened_fields rs c.args.demanded (named_fields (fields_view fs)) (fields_view fs)) (sym c.deref-field-items.ensures.value)
    ∙ c.loop-field.invariant rs held
    ∙ ap (λ fs. unopened_fields rs c.args.demanded (named_fields (fields_view xs)) (fields_view fs)) (drop_all i xs c.loop-field-test.false)
