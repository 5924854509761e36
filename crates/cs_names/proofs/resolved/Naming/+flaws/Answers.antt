use Rattle.std.proofs.Common.{rules, ◌≡◌, [], ◌∷◌, refl, sym, ap, ◌∙◌, subst}
use Rattle.std.proofs.lemmas.Result.{err_from_is_err_and}
use Rattle.cs_grammar.specs.Tree.{reference}
use Rattle.cs_grammar.specs.View.{expr_view, exprs_view, field_view, fields_view, declaration_view, declarations_view, end_view, wide_view}
use Rattle.cs_grammar.specs.declared.ast.Declaration as Declarations
use Rattle.cs_names.specs.Checks.{flaws_field_seen, flaws_seen, Finds, EndsAt, TellsScope}
use Rattle.cs_names.specs.Scopes.{scope_of_fields, scope_of_declarations}
use Rattle.cs_grammar.proofs.Views.{view-Struct, view-List, view-Reference, view-Merged, view-declared-field}
use Rattle.cs_names.specs.Flaws as Spec
use Rattle.cs_names.proofs.Parts.{flaws_field_parts, flaws_parts}
use Rattle.cs_names.proofs.Found.{finds_as, ends_left, ends_here}
use Rattle.cs_names.proofs.Tables.{inside_of}
use Rattle.cs_plain.proofs.Walks.{nothing_more, nothing_at_all, none_left}
use Rattle.cs_names.proofs.resolved.Naming.+flaws.Goals as goal

pub check_each-loop-expr-init : goal.check_each-loop-expr-init
check_each-loop-expr-init t c all ts ss tells told =
    refl

pub check_each-returns-in_err-check : goal.check_each-returns-in_err-check
check_each-returns-in_err-check t c all ts ss tells told =
    let p = err_from_is_err_and c.from_residual.result c.from_residual.ensures.1 in
    rw (p.1, p.2) (ends_here (λ ys. Spec.flaws_each ts c.args.self.now.file c.args.is_inner ss (exprs_view ys)) (λ e. Spec.flaws ts c.args.self.now.file c.args.is_inner ss (expr_view e)) (λ e es. refl) c.args.exprs.now c.loop-expr.expr-index c.expr-item.result c.loop-expr-test.true c.expr-item.is (c.loop-expr.invariant all ts ss tells told) _ (c.in_err-check.ensures all ts ss tells told))

pub check_each-loop-expr-preserved : goal.check_each-loop-expr-preserved
check_each-loop-expr-preserved t c all ts ss tells told =
    nothing_more (λ ys. Spec.flaws_each ts c.args.self.now.file c.args.is_inner ss (exprs_view ys)) (λ e. Spec.flaws ts c.args.self.now.file c.args.is_inner ss (expr_view e)) (λ e es. refl) c.args.exprs.now c.loop-expr.expr-index c.expr-item.result c.loop-expr-test.true c.expr-item.is (c.loop-expr.invariant all ts ss tells told) (c.in_ok-check.ensures all ts ss tells told)

pub check_each-returns : goal.check_each-returns
check_each-returns t c all ts ss tells told =
    nothing_at_all (λ ys. Spec.flaws_each ts c.args.self.now.file c.args.is_inner ss (exprs_view ys)) c.args.exprs.now c.loop-expr.expr-index refl c.loop-expr-test.false (c.loop-expr.invariant all ts ss tells told)

pub check_fields-loop-field-init : goal.check_fields-loop-field-init
check_fields-loop-field-init t c all ts scope ss tells own told =
    refl

pub check_fields-returns-in_err-check_field : goal.check_fields-returns-in_err-check_field
check_fields-returns-in_err-check_field t c all ts scope ss tells own told =
    let p = err_from_is_err_and c.from_residual.result c.from_residual.ensures.1 in
    rw (p.1, p.2) (ends_here (λ ys. Spec.flaws_fields ts c.args.self.now.file c.args.is_inner scope ss (fields_view ys)) (λ f. flaws_field_seen ts c.args.self.now.file c.args.is_inner scope ss (field_view f)) (flaws_field_parts ts c.args.self.now.file c.args.is_inner scope ss) c.args.fields.now c.loop-field.field-index c.field-item.result c.loop-field-test.true c.field-item.is (c.loop-field.invariant all ts scope ss tells own told) _ (c.in_err-check_field.ensures all ts scope ss tells own told))

pub check_fields-loop-field-preserved : goal.check_fields-loop-field-preserved
check_fields-loop-field-preserved t c all ts scope ss tells own told =
    nothing_more (λ ys. Spec.flaws_fields ts c.args.self.now.file c.args.is_inner scope ss (fields_view ys)) (λ f. flaws_field_seen ts c.args.self.now.file c.args.is_inner scope ss (field_view f)) (flaws_field_parts ts c.args.self.now.file c.args.is_inner scope ss) c.args.fields.now c.loop-field.field-index c.field-item.result c.loop-field-test.true c.field-item.is (c.loop-field.invariant all ts scope ss tells own told) (c.in_ok-check_field.ensures all ts scope ss tells own told)

pub check_fields-returns : goal.check_fields-returns
check_fields-returns t c all ts scope ss tells own told =
    nothing_at_all (λ ys. Spec.flaws_fields ts c.args.self.now.file c.args.is_inner scope ss (fields_view ys)) c.args.fields.now c.loop-field.field-index refl c.loop-field-test.false (c.loop-field.invariant all ts scope ss tells own told)

pub check_declarations-loop-declaration-init : goal.check_declarations-loop-declaration-init
check_declarations-loop-declaration-init t c all ts scope ss tells own told =
    refl

pub check_declarations-returns-in_err-check_declaration : goal.check_declarations-returns-in_err-check_declaration
check_declarations-returns-in_err-check_declaration t c all ts scope ss tells own told =
    let p = err_from_is_err_and c.from_residual.result c.from_residual.ensures.1 in
    rw (p.1, p.2) (ends_here (λ ys. Spec.flaws_declarations ts c.args.self.now.file c.args.is_inner scope ss (declarations_view ys)) (λ d. flaws_seen ts c.args.self.now.file c.args.is_inner scope ss (declaration_view d)) (flaws_parts ts c.args.self.now.file c.args.is_inner scope ss) c.args.declarations.now c.loop-declaration.declaration-index c.declaration-item.result c.loop-declaration-test.true c.declaration-item.is (c.loop-declaration.invariant all ts scope ss tells own told) _ (c.in_err-check_declaration.ensures all ts scope ss tells own told))

pub check_declarations-loop-declaration-preserved : goal.check_declarations-loop-declaration-preserved
check_declarations-loop-declaration-preserved t c all ts scope ss tells own told =
    nothing_more (λ ys. Spec.flaws_declarations ts c.args.self.now.file c.args.is_inner scope ss (declarations_view ys)) (λ d. flaws_seen ts c.args.self.now.file c.args.is_inner scope ss (declaration_view d)) (flaws_parts ts c.args.self.now.file c.args.is_inner scope ss) c.args.declarations.now c.loop-declaration.declaration-index c.declaration-item.result c.loop-declaration-test.true c.declaration-item.is (c.loop-declaration.invariant all ts scope ss tells own told) (c.in_ok-check_declaration.ensures all ts scope ss tells own told)

pub check_declarations-returns : goal.check_declarations-returns
check_declarations-returns t c all ts scope ss tells own told =
    nothing_at_all (λ ys. Spec.flaws_declarations ts c.args.self.now.file c.args.is_inner scope ss (declarations_view ys)) c.args.declarations.now c.loop-declaration.declaration-index refl c.loop-declaration-test.false (c.loop-declaration.invariant all ts scope ss tells own told)

pub check-returns-in_err-check_each-in-List : goal.check-returns-in_err-check_each-in-List
check-returns-in_err-check_each-in-List t c all ts ss tells told =
    let i = c.args.self.now.file in
    let inner = c.args.is_inner in
    let e = c.in_err-check_each-in-List.field-0.0 in
    let p = err_from_is_err_and c.from_residual-in_err-check_each-in-List.result c.from_residual-in_err-check_each-in-List.ensures.1 in
    let is = ap expr_view c.in-List.is ∙ view-List c.in-List.front c.in-List.end in
    let front = subst (λ es. EndsAt e (Spec.flaws_each ts i inner ss (exprs_view es))) c.deref-in-List.ensures.value (c.in_err-check_each-in-List.ensures all ts ss tells told) in
    let here = ends_left (Spec.flaws_each ts i inner ss (exprs_view c.in-List.front.items)) (Spec.flaws_end ts i inner ss (end_view c.in-List.end)) e front in
    rw (p.1, p.2) (subst (λ x. EndsAt e (Spec.flaws ts i inner ss x)) (sym is) here)

pub check-returns-in-Reference : goal.check-returns-in-Reference
check-returns-in-Reference t c all ts ss tells told =
    let is = ap expr_view c.in-Reference.is ∙ view-Reference c.in-Reference.text c.in-Reference.at in
    let same = ap (λ s. reference s c.in-Reference.at) c.deref-in-Reference.ensures ∙ sym is in
    subst (λ x. Finds c.check_reference.result (Spec.flaws ts c.args.self.now.file c.args.is_inner ss x)) same (c.check_reference.ensures all ts ss tells told c.args.is_inner)

-- ---- forms of several parts

pub check-returns-in_ok-check_each-in-List : goal.check-returns-in_ok-check_each-in-List
check-returns-in_ok-check_each-in-List t c all ts ss tells told =
    let flaws = Spec.flaws ts c.args.self.now.file c.args.is_inner ss in
    let front = Spec.flaws_each ts c.args.self.now.file c.args.is_inner ss (exprs_view c.in-List.front.items) in
    let end = Spec.flaws_end ts c.args.self.now.file c.args.is_inner ss (end_view c.in-List.end) in
    let is = ap flaws (ap expr_view c.in-List.is ∙ view-List c.in-List.front c.in-List.end) in
    let none : front ≡ [] = ap (λ es. Spec.flaws_each ts c.args.self.now.file c.args.is_inner ss (exprs_view es)) (sym c.deref-in-List.ensures.value) ∙ c.in_ok-check_each-in-List.ensures all ts ss tells told in
    finds_as c.check_end.result (flaws (expr_view c.args.expr.now)) end (is ∙ none_left front end none) (c.check_end.ensures all ts ss tells told)

pub check-returns-in_ok-own-in-Struct : goal.check-returns-in_ok-own-in-Struct
check-returns-in_ok-own-in-Struct t c all ts ss tells told =
    let i = c.args.self.now.file in
    let flaws = Spec.flaws ts i c.args.is_inner ss in
    let scope = scope_of_fields i (fields_view c.in-Struct.fields.items) in
    let is = ap flaws (ap expr_view c.in-Struct.is ∙ view-Struct c.in-Struct.at c.in-Struct.fields c.in-Struct.opened) in
    let own = subst (λ fs. TellsScope c.in_ok-own-in-Struct.own (scope_of_fields i (fields_view fs))) c.deref-in-Struct.ensures.value c.in_ok-own-in-Struct.ensures in
    let same = ap (λ fs. Spec.flaws_fields ts i c.args.is_inner scope ss (fields_view fs)) c.deref-in-Struct-2.ensures.value in
    finds_as c.check_fields.result (flaws (expr_view c.args.expr.now)) (Spec.flaws_fields ts i c.args.is_inner scope ss (fields_view c.deref-in-Struct-2.result.now)) (is ∙ sym same) (c.check_fields.ensures all ts scope ss tells own told)

pub check_wide-returns-in_ok-own-in-Merged : goal.check_wide-returns-in_ok-own-in-Merged
check_wide-returns-in_ok-own-in-Merged t c all ts ss tells told =
    let i = c.args.self.now.file in
    let flaws = Spec.flaws_wide ts i c.args.is_inner ss in
    let scope = scope_of_declarations i (declarations_view c.in-Merged.declarations.items) in
    let is = ap flaws (ap wide_view c.in-Merged.is ∙ view-Merged c.in-Merged.at c.in-Merged.declarations c.in-Merged.opened) in
    let own = subst (λ ds. TellsScope c.in_ok-own-in-Merged.own (scope_of_declarations i (declarations_view ds))) c.deref.ensures.value c.in_ok-own-in-Merged.ensures in
    let same = ap (λ ds. Spec.flaws_declarations ts i c.args.is_inner scope ss (declarations_view ds)) c.deref-in-Merged.ensures.value in
    finds_as c.check_declarations.result (flaws (wide_view c.args.form.now)) (Spec.flaws_declarations ts i c.args.is_inner scope ss (declarations_view c.deref-in-Merged.result.now)) (is ∙ sym same) (c.check_declarations.ensures all ts scope ss tells own told)

-- ---- declarations

pub check_declaration-returns-in-Field : goal.check_declaration-returns-in-Field
check_declaration-returns-in-Field t c all ts scope ss tells own told =
    let flaws = flaws_seen ts c.args.self.now.file c.args.is_inner scope ss in
    let is = ap flaws (ap declaration_view c.in-Field.is ∙ view-declared-field c.in-Field.field) in
    finds_as c.check_field.result (flaws (declaration_view c.args.declaration.now)) (flaws_field_seen ts c.args.self.now.file c.args.is_inner scope ss (field_view c.in-Field.field)) is (c.check_field.ensures all ts scope ss tells own told)

pub check_declaration-returns-in_ok-scopes-in-Embedded : goal.check_declaration-returns-in_ok-scopes-in-Embedded
check_declaration-returns-in_ok-scopes-in-Embedded t c all ts scope ss tells own told =
    let i = c.args.self.now.file in
    let here = Spec.flaws ts i c.args.is_inner (scope ∷ ss) (expr_view c.in-Embedded.value) in
    let is : flaws_seen ts i c.args.is_inner scope ss (declaration_view c.args.declaration.now) ≡ here = search (rules, Declarations.the_lemmas) in
    let around = inside_of c.whole.result scope c.args.outside.now c.deref.result.now ss (c.deref.ensures.value ∙ c.in_ok-scopes-in-Embedded.ensures) (c.whole.ensures scope own) told in
    finds_as c.check.result (flaws_seen ts i c.args.is_inner scope ss (declaration_view c.args.declaration.now)) here is (c.check.ensures all ts (scope ∷ ss) tells around)
