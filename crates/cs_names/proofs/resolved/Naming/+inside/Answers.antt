use Rattle.std.proofs.Common.{rules, ◌≡◌, List, [], ◌∷◌, ◌++◌, map, take, refl, sym, ap, ◌∙◌, subst, append_assoc}
use Rattle.std.proofs.lemmas.List.{take_all}
use Rattle.cs_grammar.specs.declared.ast.Expr as Exprs
use Rattle.cs_grammar.specs.Tree.{DefinitionTree, definition}
use Rattle.cs_grammar.specs.View.{expr_view, exprs_view, field_view, fields_view, declaration_view, declarations_view, definition_view, end_view, wide_view}
use Rattle.cs_plain.proofs.Folds.{gathered_more}
use Rattle.cs_grammar.specs.declared.ast.Declaration as Declarations
use Rattle.cs_grammar.proofs.Views.{view-Struct, view-List, view-Merged, view-value, view-label}
use Rattle.cs_names.specs.Checks.{TellsLifts, TellsScope, TellScopes, inside_field_seen, inside_seen}
use Rattle.cs_names.specs.Lifted.{Lifts, known, own_place, is_open}
use Rattle.cs_names.specs.Named as Spec
use Rattle.cs_names.specs.Scopes.{Scope, scope_of_fields, scope_of_declarations, value_scope}
use Rattle.cs_names.proofs.Parts.{inside_field_parts, inside_parts, defined_some, defined_none}
use Rattle.cs_names.proofs.Tables.{inside_of, on_ok}
use Rattle.cs_names.proofs.resolved.Naming.+inside.Goals as goal
use Rattle.cs_names.proofs.resolved.Naming.+inside.Goals.{add_field-in-Some+in_ok-add_resolved, add_field-in_default}

pub add_each-loop-expr-preserved : goal.add_each-loop-expr-preserved
add_each-loop-expr-preserved t c all ts ss tells told =
    let xs = c.args.exprs.now in
    let i = c.loop-expr.expr-index in
    let x = c.expr-item.result in
    let before = map definition_view c.args.found.now.items in
    let done = Spec.inside_each (known ts) (is_open ts) c.args.self.now.file ss (exprs_view (take i xs)) in
    let one = Spec.inside (known ts) (is_open ts) c.args.self.now.file ss (expr_view x) in
    let more = gathered_more (λ ys. Spec.inside_each (known ts) (is_open ts) c.args.self.now.file ss (exprs_view ys)) (λ y. Spec.inside (known ts) (is_open ts) c.args.self.now.file ss (expr_view y)) refl (λ e es. refl) xs i x c.loop-expr-test.true c.expr-item.is in
    c.in_ok-add_inside.ensures all ts ss tells told ∙ ap (λ ds. ds ++ one) (c.loop-expr.invariant all ts ss tells told) ∙ append_assoc before done one ∙ ap (λ ds. before ++ ds) (sym more)

pub add_each-returns : goal.add_each-returns
add_each-returns t c all ts ss tells told =
    c.loop-expr.invariant all ts ss tells told ∙ ap (λ ys. map definition_view c.args.found.now.items ++ Spec.inside_each (known ts) (is_open ts) c.args.self.now.file ss (exprs_view ys)) (take_all c.loop-expr.expr-index c.args.exprs.now c.loop-expr-test.false)

pub add_fields-loop-field-preserved : goal.add_fields-loop-field-preserved
add_fields-loop-field-preserved t c all ts scope ss tells own told =
    let xs = c.args.fields.now in
    let i = c.loop-field.field-index in
    let x = c.field-item.result in
    let before = map definition_view c.args.found.now.items in
    let done = Spec.inside_fields (known ts) (is_open ts) c.args.self.now.file scope ss (fields_view (take i xs)) in
    let one = inside_field_seen (known ts) (is_open ts) c.args.self.now.file scope ss (field_view x) in
    let more = gathered_more (λ ys. Spec.inside_fields (known ts) (is_open ts) c.args.self.now.file scope ss (fields_view ys)) (λ y. inside_field_seen (known ts) (is_open ts) c.args.self.now.file scope ss (field_view y)) refl (inside_field_parts (known ts) (is_open ts) c.args.self.now.file scope ss) xs i x c.loop-field-test.true c.field-item.is in
    c.in_ok-add_field.ensures all ts scope ss tells own told ∙ ap (λ ds. ds ++ one) (c.loop-field.invariant all ts scope ss tells own told) ∙ append_assoc before done one ∙ ap (λ ds. before ++ ds) (sym more)

pub add_fields-returns : goal.add_fields-returns
add_fields-returns t c all ts scope ss tells own told =
    c.loop-field.invariant all ts scope ss tells own told ∙ ap (λ ys. map definition_view c.args.found.now.items ++ Spec.inside_fields (known ts) (is_open ts) c.args.self.now.file scope ss (fields_view ys)) (take_all c.loop-field.field-index c.args.fields.now c.loop-field-test.false)

pub add_declarations-loop-declaration-preserved : goal.add_declarations-loop-declaration-preserved
add_declarations-loop-declaration-preserved t c all ts scope ss tells own told =
    let xs = c.args.declarations.now in
    let i = c.loop-declaration.declaration-index in
    let x = c.declaration-item.result in
    let before = map definition_view c.args.found.now.items in
    let done = Spec.inside_declarations (known ts) (is_open ts) c.args.self.now.file scope ss (declarations_view (take i xs)) in
    let one = inside_seen (known ts) (is_open ts) c.args.self.now.file scope ss (declaration_view x) in
    let more = gathered_more (λ ys. Spec.inside_declarations (known ts) (is_open ts) c.args.self.now.file scope ss (declarations_view ys)) (λ y. inside_seen (known ts) (is_open ts) c.args.self.now.file scope ss (declaration_view y)) refl (inside_parts (known ts) (is_open ts) c.args.self.now.file scope ss) xs i x c.loop-declaration-test.true c.declaration-item.is in
    c.in_ok-add_declaration.ensures all ts scope ss tells own told ∙ ap (λ ds. ds ++ one) (c.loop-declaration.invariant all ts scope ss tells own told) ∙ append_assoc before done one ∙ ap (λ ds. before ++ ds) (sym more)

pub add_declarations-returns : goal.add_declarations-returns
add_declarations-returns t c all ts scope ss tells own told =
    c.loop-declaration.invariant all ts scope ss tells own told ∙ ap (λ ys. map definition_view c.args.found.now.items ++ Spec.inside_declarations (known ts) (is_open ts) c.args.self.now.file scope ss (declarations_view ys)) (take_all c.loop-declaration.declaration-index c.args.declarations.now c.loop-declaration-test.false)

-- ---- expressions

pub add_inside-returns-in-And : goal.add_inside-returns-in-And
add_inside-returns-in-And t c =
    let i = c.args.self.now.file in
    let es = c.deref-in-And.result.now in
    let old = map definition_view c.args.found.now.items in
    let new = map definition_view c.add_each-in-And.new.found.items in
    let is : (ts : Lifts) (ss : List Scope) → Spec.inside (known ts) (is_open ts) i ss (expr_view c.args.expr.now) ≡ Spec.inside_each (known ts) (is_open ts) i ss (exprs_view es) = (λ ts ss. search (rules, Exprs.the_lemmas)) in
    let next : ((all : List DefinitionTree) (ts : Lifts) (ss : List Scope) → TellsLifts c.args.self.now.lifting.now all ts → TellScopes c.args.scopes.now ss → new ≡ old ++ Spec.inside_each (known ts) (is_open ts) i ss (exprs_view es))
    → (all : List DefinitionTree) (ts : Lifts) (ss : List Scope) → TellsLifts c.args.self.now.lifting.now all ts → TellScopes c.args.scopes.now ss → new ≡ old ++ Spec.inside (known ts) (is_open ts) i ss (expr_view c.args.expr.now) =
    (λ step all ts ss tells told. step all ts ss tells told ∙ ap (λ ds. old ++ ds) (sym (is ts ss))) in
    on_ok c.add_each-in-And.result c.add_each-in-And.ensures next

pub add_inside-returns-in_ok-own-in-Struct : goal.add_inside-returns-in_ok-own-in-Struct
add_inside-returns-in_ok-own-in-Struct t c =
    let i = c.args.self.now.file in
    let own = c.in_ok-own-in-Struct.own in
    let scope = scope_of_fields i (fields_view c.in-Struct.fields.items) in
    let old = map definition_view c.args.found.now.items in
    let new = map definition_view c.add_fields.new.found.items in
    let is = ap expr_view c.in-Struct.is ∙ view-Struct c.in-Struct.at c.in-Struct.fields c.in-Struct.opened in
    let here = subst (λ fs. TellsScope own (scope_of_fields i (fields_view fs))) c.deref-in-Struct.ensures.value c.in_ok-own-in-Struct.ensures in
    let next : ((all : List DefinitionTree) (ts : Lifts) (scope : Scope) (ss : List Scope) → TellsLifts c.args.self.now.lifting.now all ts → TellsScope own scope → TellScopes c.args.scopes.now ss
    → new ≡ old ++ Spec.inside_fields (known ts) (is_open ts) i scope ss (fields_view c.deref-in-Struct-2.result.now))
    → (all : List DefinitionTree) (ts : Lifts) (ss : List Scope) → TellsLifts c.args.self.now.lifting.now all ts → TellScopes c.args.scopes.now ss → new ≡ old ++ Spec.inside (known ts) (is_open ts) i ss (expr_view c.args.expr.now) =
    (λ step all ts ss tells told. step all ts scope ss tells here told
    ∙ ap (λ fs. old ++ Spec.inside_fields (known ts) (is_open ts) i scope ss (fields_view fs)) c.deref-in-Struct-2.ensures.value ∙ ap (λ e. old ++ Spec.inside (known ts) (is_open ts) i ss e) (sym is)) in
    on_ok c.add_fields.result c.add_fields.ensures next

pub add_inside-returns-in_ok-add_each-in-List : goal.add_inside-returns-in_ok-add_each-in-List
add_inside-returns-in_ok-add_each-in-List t c =
    let i = c.args.self.now.file in
    let end = end_view c.in-List.end in
    let old = map definition_view c.args.found.now.items in
    let mid = map definition_view c.add_each.new.found.items in
    let new = map definition_view c.add_end.new.found.items in
    let is = ap expr_view c.in-List.is ∙ view-List c.in-List.front c.in-List.end in
    let next : ((all : List DefinitionTree) (ts : Lifts) (ss : List Scope) → TellsLifts c.args.self.now.lifting.now all ts → TellScopes c.args.scopes.now ss → new ≡ mid ++ Spec.inside_end (known ts) (is_open ts) i ss end) → (all : List DefinitionTree) (ts : Lifts) (ss : List Scope) → TellsLifts c.args.self.now.lifting.now all ts → TellScopes c.args.scopes.now ss → new ≡ old ++ Spec.inside (known ts) (is_open ts) i ss (expr_view c.args.expr.now) =
    (λ step all ts ss tells told.
    let front = c.in_ok-add_each-in-List.ensures all ts ss tells told ∙ ap (λ es. old ++ Spec.inside_each (known ts) (is_open ts) i ss (exprs_view es)) c.deref-in-List.ensures.value in
    step all ts ss tells told ∙ ap (λ ds. ds ++ Spec.inside_end (known ts) (is_open ts) i ss end) front
    ∙ append_assoc old (Spec.inside_each (known ts) (is_open ts) i ss (exprs_view c.in-List.front.items)) (Spec.inside_end (known ts) (is_open ts) i ss end) ∙ ap (λ e. old ++ Spec.inside (known ts) (is_open ts) i ss e) (sym is)) in
    on_ok c.add_end.result c.add_end.ensures next

pub add_wide-returns-in_ok-own-in-Merged : goal.add_wide-returns-in_ok-own-in-Merged
add_wide-returns-in_ok-own-in-Merged t c =
    let i = c.args.self.now.file in
    let own = c.in_ok-own-in-Merged.own in
    let scope = scope_of_declarations i (declarations_view c.in-Merged.declarations.items) in
    let old = map definition_view c.args.found.now.items in
    let new = map definition_view c.add_declarations.new.found.items in
    let is = ap wide_view c.in-Merged.is ∙ view-Merged c.in-Merged.at c.in-Merged.declarations c.in-Merged.opened in
    let here = subst (λ ds. TellsScope own (scope_of_declarations i (declarations_view ds))) c.deref.ensures.value c.in_ok-own-in-Merged.ensures in
    let next : ((all : List DefinitionTree) (ts : Lifts) (scope : Scope) (ss : List Scope) → TellsLifts c.args.self.now.lifting.now all ts → TellsScope own scope → TellScopes c.args.scopes.now ss
    → new ≡ old ++ Spec.inside_declarations (known ts) (is_open ts) i scope ss (declarations_view c.deref-in-Merged.result.now))
    → (all : List DefinitionTree) (ts : Lifts) (ss : List Scope) → TellsLifts c.args.self.now.lifting.now all ts → TellScopes c.args.scopes.now ss → new ≡ old ++ Spec.inside_wide (known ts) (is_open ts) i ss (wide_view c.args.form.now) =
    (λ step all ts ss tells told. step all ts scope ss tells here told
    ∙ ap (λ ds. old ++ Spec.inside_declarations (known ts) (is_open ts) i scope ss (declarations_view ds)) c.deref-in-Merged.ensures.value ∙ ap (λ e. old ++ Spec.inside_wide (known ts) (is_open ts) i ss e) (sym is)) in
    on_ok c.add_declarations.result c.add_declarations.ensures next

-- ---- fields and declarations

pub add_field-returns : goal.add_field-returns
add_field-returns t c =
    let i = c.args.self.now.file in
    let f = c.args.field.now in
    let s = field_view f in
    let old = map definition_view c.args.found.now.items in
    let mid = map definition_view c.match-definition_of.found.items in
    let new = map definition_view c.add_inside.new.found.items in
    let next : ((all : List DefinitionTree) (ts : Lifts) (ss : List Scope) → TellsLifts c.args.self.now.lifting.now all ts → TellScopes c.deref-2.result.now ss
    → new ≡ mid ++ Spec.inside (known ts) (is_open ts) i ss (expr_view f.value))
    → (all : List DefinitionTree) (ts : Lifts) (scope : Scope) (ss : List Scope) → TellsLifts c.args.self.now.lifting.now all ts → TellsScope c.args.own.now scope → TellScopes c.args.outside.now ss → new ≡ old ++ inside_field_seen (known ts) (is_open ts) i scope ss s =
    (λ step all ts scope ss tells own told.
    let by = known ts in let opens = is_open ts in
    let here = value_scope s.label scope in
    let place = Spec.at_place by (own_place scope s.label) in
    let value = Spec.resolved by opens i (here ∷ ss) s.value in
    let inner = Spec.inside by opens i (here ∷ ss) s.value in
    let around = inside_of c.of_value.result here c.args.outside.now c.deref-2.result.now ss (c.deref-2.ensures.value ∙ c.in_ok-scopes.ensures) (c.of_value.ensures scope own) told in
    let rest = step all ts (here ∷ ss) tells around ∙ ap (λ e. mid ++ Spec.inside by opens i (here ∷ ss) e) (sym (view-value f)) in
    elim c.match-definition_of.branch [
      | add_field-in-Some+in_ok-add_resolved w ↦
          let within = inside_of c.of_value.result here c.args.outside.now w.deref.result.now ss (w.deref.ensures.value ∙ c.in_ok-scopes.ensures) (c.of_value.ensures scope own) told in
          let at = w.unwrap_or-at.ensures ∙ sym (ap (λ l. Spec.offset_of l.scoped) (view-label f)) in
          let body = Spec.resolved by opens i (here ∷ ss) (expr_view f.value) in
          let same = ap (Spec.resolved by opens i (here ∷ ss)) (sym (view-value f)) in
          defined_some old mid new place w.in-Some.name.now (Spec.offset_of s.label.scoped) body value inner rest
          (ap (λ v. map definition_view v.items) w.found-is ∙ w.in_ok-add_resolved.ensures all ts (here ∷ ss) tells within ∙ ap (λ o. old ++ definition w.in-Some.name.now o body ∷ []) at)
          same (sym (w.in-Some.ensures all ts scope tells own))
      | add_field-in_default w ↦
          defined_none old mid new place (Spec.offset_of s.label.scoped) value inner rest (ap (λ v. map definition_view v.items) w.found-is) (sym (w.in_default.ensures all ts scope tells own))
    ]) in
    on_ok c.add_inside.result c.add_inside.ensures next

pub add_declaration-returns-in_ok-scopes-in-Embedded : goal.add_declaration-returns-in_ok-scopes-in-Embedded
add_declaration-returns-in_ok-scopes-in-Embedded t c =
    let i = c.args.self.now.file in
    let e = expr_view c.in-Embedded.value in
    let old = map definition_view c.args.found.now.items in
    let new = map definition_view c.add_inside.new.found.items in
    let is : (ts : Lifts) (scope : Scope) (ss : List Scope) → inside_seen (known ts) (is_open ts) i scope ss (declaration_view c.args.declaration.now) ≡ Spec.inside (known ts) (is_open ts) i (scope ∷ ss) e =
    (λ ts scope ss. search (rules, Declarations.the_lemmas)) in
    let next : ((all : List DefinitionTree) (ts : Lifts) (ss : List Scope) → TellsLifts c.args.self.now.lifting.now all ts → TellScopes c.deref.result.now ss
    → new ≡ old ++ Spec.inside (known ts) (is_open ts) i ss e)
    → (all : List DefinitionTree) (ts : Lifts) (scope : Scope) (ss : List Scope) → TellsLifts c.args.self.now.lifting.now all ts → TellsScope c.args.own.now scope → TellScopes c.args.outside.now ss → new ≡ old ++ inside_seen (known ts) (is_open ts) i scope ss (declaration_view c.args.declaration.now) =
    (λ step all ts scope ss tells own told.
    let around = inside_of c.whole.result scope c.args.outside.now c.deref.result.now ss (c.deref.ensures.value ∙ c.in_ok-scopes-in-Embedded.ensures) (c.whole.ensures scope own) told in
    step all ts (scope ∷ ss) tells around ∙ ap (λ ds. old ++ ds) (sym (is ts scope ss))) in
    on_ok c.add_inside.result c.add_inside.ensures next
