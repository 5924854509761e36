use Rattle.std.proofs.Common.{List, take, refl, sym, ap, ◌∙◌, subst}
use Rattle.std.proofs.lemmas.List.{take_all}
use Rattle.cs_grammar.specs.Tree.{DefinitionTree}
use Rattle.cs_grammar.specs.View.{expr_view, exprs_view, field_view, fields_view, declaration_view, declarations_view, wide_view}
use Rattle.cs_plain.proofs.Folds.{folded_more}
use Rattle.cs_names.specs.Checks.{TellsLifts, TellsScope, lift_seen_field, lift_seen}
use Rattle.cs_names.specs.Lifted as Spec
use Rattle.cs_names.specs.Scopes.{Scope, scope_of_fields, scope_of_declarations}
use Rattle.cs_grammar.proofs.Views.{view-Struct, view-Merged}
use Rattle.cs_names.proofs.Tables.{on_ok}
use Rattle.cs_names.proofs.Parts.{lift_field_parts, lift_parts}
use Rattle.cs_names.proofs.lifting.Lifting.+lift.Goals as goal

pub lift_each-loop-expr-preserved : goal.lift_each-loop-expr-preserved
lift_each-loop-expr-preserved t c all ts tells =
    let xs = c.args.exprs.now in
    let i = c.loop-expr.expr-index in
    subst (TellsLifts c.lift_in.new.self all)
    (sym (folded_more (λ ys us. Spec.lift_each all c.args.file c.args.outer.now (exprs_view ys) us) (λ e us. Spec.lift_in all c.args.file c.args.outer.now (expr_view e) us) (λ us. refl) (λ e es us. refl) xs i c.expr-item.result ts c.loop-expr-test.true c.expr-item.is))
    (c.in_ok-lift_in.ensures all (Spec.lift_each all c.args.file c.args.outer.now (exprs_view (take i xs)) ts) (c.loop-expr.invariant all ts tells))

pub lift_each-returns : goal.lift_each-returns
lift_each-returns t c all ts tells =
    subst (λ ys. TellsLifts c.loop-expr.self all (Spec.lift_each all c.args.file c.args.outer.now (exprs_view ys) ts)) (take_all c.loop-expr.expr-index c.args.exprs.now c.loop-expr-test.false) (c.loop-expr.invariant all ts tells)

pub lift_fields-loop-field-preserved : goal.lift_fields-loop-field-preserved
lift_fields-loop-field-preserved t c all ts scope tells told =
    let xs = c.args.fields.now in
    let i = c.loop-field.field-index in
    subst (TellsLifts c.lift_field.new.self all)
    (sym (folded_more (λ ys us. Spec.lift_fields all c.args.file c.args.outer.now scope (fields_view ys) us) (λ f us. lift_seen_field all c.args.file c.args.outer.now scope (field_view f) us) (λ us. refl) (lift_field_parts all c.args.file c.args.outer.now scope) xs i c.field-item.result ts c.loop-field-test.true c.field-item.is))
    (c.in_ok-lift_field.ensures all (Spec.lift_fields all c.args.file c.args.outer.now scope (fields_view (take i xs)) ts) scope (c.loop-field.invariant all ts scope tells told) told)

pub lift_fields-returns : goal.lift_fields-returns
lift_fields-returns t c all ts scope tells told =
    subst (λ ys. TellsLifts c.loop-field.self all (Spec.lift_fields all c.args.file c.args.outer.now scope (fields_view ys) ts)) (take_all c.loop-field.field-index c.args.fields.now c.loop-field-test.false) (c.loop-field.invariant all ts scope tells told)

pub lift_declarations-loop-declaration-preserved : goal.lift_declarations-loop-declaration-preserved
lift_declarations-loop-declaration-preserved t c all ts scope tells told =
    let xs = c.args.declarations.now in
    let i = c.loop-declaration.declaration-index in
    subst (TellsLifts c.lift_declaration.new.self all)
    (sym (folded_more (λ ys us. Spec.lift_declarations all c.args.file c.args.outer.now scope (declarations_view ys) us) (λ d us. lift_seen all c.args.file c.args.outer.now scope (declaration_view d) us) (λ us. refl) (lift_parts all c.args.file c.args.outer.now scope) xs i c.declaration-item.result ts c.loop-declaration-test.true c.declaration-item.is))
    (c.in_ok-lift_declaration.ensures all (Spec.lift_declarations all c.args.file c.args.outer.now scope (declarations_view (take i xs)) ts) scope (c.loop-declaration.invariant all ts scope tells told) told)

pub lift_declarations-returns : goal.lift_declarations-returns
lift_declarations-returns t c all ts scope tells told =
    subst (λ ys. TellsLifts c.loop-declaration.self all (Spec.lift_declarations all c.args.file c.args.outer.now scope (declarations_view ys) ts)) (take_all c.loop-declaration.declaration-index c.args.declarations.now c.loop-declaration-test.false) (c.loop-declaration.invariant all ts scope tells told)

pub lift_in-returns-in_ok-own-in-Struct : goal.lift_in-returns-in_ok-own-in-Struct
lift_in-returns-in_ok-own-in-Struct t c =
    let i = c.args.file in
    let outer = c.args.outer.now in
    let fs = c.in-Struct.fields.items in
    let own = c.in_ok-own-in-Struct.own in
    let new = c.lift_fields.new.self in
    let is = ap expr_view c.in-Struct.is ∙ view-Struct c.in-Struct.at c.in-Struct.fields c.in-Struct.opened in
    let told = subst (λ xs. TellsScope own (scope_of_fields i (fields_view xs))) c.deref-in-Struct.ensures.value c.in_ok-own-in-Struct.ensures in
    let next : ((all : List DefinitionTree) (ts : Spec.Lifts) (scope : Scope) → TellsLifts c.args.self.now all ts → TellsScope own scope
    → TellsLifts new all (Spec.lift_fields all i outer scope (fields_view c.deref-in-Struct-2.result.now) ts))
    → (all : List DefinitionTree) (ts : Spec.Lifts) → TellsLifts c.args.self.now all ts → TellsLifts new all (Spec.lift_in all i outer (expr_view c.args.expr.now) ts) =
    (λ step all ts tells. subst (λ e. TellsLifts new all (Spec.lift_in all i outer e ts)) (sym is)
    (subst (λ xs. TellsLifts new all (Spec.lift_fields all i outer (scope_of_fields i (fields_view fs)) (fields_view xs) ts)) c.deref-in-Struct-2.ensures.value
    (step all ts (scope_of_fields i (fields_view fs)) tells told))) in
    on_ok c.lift_fields.result c.lift_fields.ensures next

pub lift_wide-returns-in_ok-own-in-Merged : goal.lift_wide-returns-in_ok-own-in-Merged
lift_wide-returns-in_ok-own-in-Merged t c =
    let i = c.args.file in
    let outer = c.args.outer.now in
    let ds = c.in-Merged.declarations.items in
    let own = c.in_ok-own-in-Merged.own in
    let new = c.lift_declarations.new.self in
    let is = ap wide_view c.in-Merged.is ∙ view-Merged c.in-Merged.at c.in-Merged.declarations c.in-Merged.opened in
    let told = subst (λ xs. TellsScope own (scope_of_declarations i (declarations_view xs))) c.deref.ensures.value c.in_ok-own-in-Merged.ensures in
    let next : ((all : List DefinitionTree) (ts : Spec.Lifts) (scope : Scope) → TellsLifts c.args.self.now all ts → TellsScope own scope
    → TellsLifts new all (Spec.lift_declarations all i outer scope (declarations_view c.deref-in-Merged.result.now) ts))
    → (all : List DefinitionTree) (ts : Spec.Lifts) → TellsLifts c.args.self.now all ts → TellsLifts new all (Spec.lift_wide all i outer (wide_view c.args.form.now) ts) =
    (λ step all ts tells. subst (λ e. TellsLifts new all (Spec.lift_wide all i outer e ts)) (sym is)
    (subst (λ xs. TellsLifts new all (Spec.lift_declarations all i outer (scope_of_declarations i (declarations_view ds)) (declarations_view xs) ts)) c.deref-in-Merged.ensures.value
    (step all ts (scope_of_declarations i (declarations_view ds)) tells told))) in
    on_ok c.lift_declarations.result c.lift_declarations.ensures next
