use Rattle.std.proofs.Common.{rules, ◌≡◌, true, false, not, is_some, [], ◌∷◌, ◌++◌, map, take, refl, sym, ap, ap₂, ◌∙◌, subst, IfOk}
use Rattle.std.proofs.lemmas.List.{take_all, append-nil, map-append}
use Rattle.std.specs.List.{flat_map}
use Rattle.cs_grammar.proofs.Views.{view-Name, view-Reference, view-Paren, view-Struct, view-List, view-Wide, view-Marked, view-Merged, view-Shut, view-Selected, view-Each, view-value, view-label, view-declared-field, view-embedded, view-conditional}
use Rattle.cs_grammar.specs.Tree as T
use Rattle.cs_grammar.specs.View.{expr_view, exprs_view, trees_of, field_view, fields_view, fields_of, declaration_view, declarations_view, declarations_of, wide_view, end_view, selector_view, condition_view, field_seen, embedding_seen, conditional_seen}
use Rattle.cs_names.specs.Checks.{TellsScope, resolved_field_seen, resolved_seen}
use Rattle.cs_names.specs.Lifted.{known, is_open}
use Rattle.cs_names.specs.Named as Spec
use Rattle.cs_names.specs.Scopes.{scope_of_fields, scope_of_declarations, value_scope}
use Rattle.cs_plain.proofs.Folds.{gathered_more}
use Rattle.cs_names.proofs.Parts.{kept_field, kept_fields, kept_seen, kept_declarations, kept, lost, only_here, only_nowhere, resolved_trees}
use Rattle.cs_names.proofs.Tables.{inside_of}
use Rattle.cs_plain.proofs.Walks.{map_pushed}
use Rattle.cs_names.proofs.resolved.Naming.+resolve.Goals as goal
use Rattle.cs_names.proofs.resolved.Naming.+resolve.Goals.{resolved_fields-then-is_none+in_ok-resolved_field+in_ok-push, resolved_fields-else-is_none, resolved_declarations-then-not-is_scoped+in_ok-resolved_declaration+in_ok-push, resolved_declarations-else-not-is_scoped}

-- ---- lists

pub resolved_each-loop-expr-preserved : goal.resolved_each-loop-expr-preserved
resolved_each-loop-expr-preserved t c all ts ss tells told =
    map_pushed (λ e. Spec.resolved (known ts) (is_open ts) c.args.self.now.file ss (expr_view e)) expr_view c.args.exprs.now c.loop-expr.expr-index c.expr-item.result c.loop-expr-test.true c.expr-item.is
    _ _ _ c.in_ok-push.ensures.items (c.loop-expr.invariant all ts ss tells told) (c.in_ok-resolved-2.ensures all ts ss tells told)

pub resolved_each-returns : goal.resolved_each-returns
resolved_each-returns t c all ts ss tells told =
    ap trees_of (c.loop-expr.invariant all ts ss tells told)
    ∙ ap (λ es. trees_of (map (λ e. Spec.resolved (known ts) (is_open ts) c.args.self.now.file ss (expr_view e)) es)) (take_all c.loop-expr.expr-index c.args.exprs.now c.loop-expr-test.false)
    ∙ resolved_trees (known ts) (is_open ts) c.args.self.now.file ss c.args.exprs.now

pub resolved_fields-loop-field-preserved : goal.resolved_fields-loop-field-preserved
resolved_fields-loop-field-preserved t c all ts scope ss tells own told =
    let keep = kept_field (known ts) (is_open ts) c.args.self.now.file scope ss in
    let xs = c.args.fields.now in
    let k = c.loop-field.field-index in
    let x = c.field-item.result in
    let one = resolved_field_seen (known ts) (is_open ts) c.args.self.now.file scope ss (field_view x) in
    let done = flat_map keep (take k xs) in
    let more = gathered_more (λ ys. flat_map keep ys) keep refl (λ f fs. refl) xs k x c.loop-field-test.true c.field-item.is in
    let before = c.loop-field.invariant all ts scope ss tells own told in
    let scoped = ap (λ (l : T.Label). is_some l.scoped) (view-label x) in
    elim c.if-is_none.branch [
      | resolved_fields-then-is_none+in_ok-resolved_field+in_ok-push w ↦
          let no : is_some x.scoped ≡ false = c.is_none.ensures ∙ ap not w.if-is_none.true in
          ap (λ v. map field_view v.items) w.resolved-is ∙ ap (map field_view) w.in_ok-push.ensures.items ∙ map-append field_view c.loop-field.resolved.items _
          ∙ ap₂ (λ fs f. fs ++ f ∷ []) before (w.in_ok-resolved_field.ensures all ts scope ss tells own told)
          ∙ ap (λ fs. done ++ fs) (sym (only_here (field_view x).label.scoped one (scoped ∙ no))) ∙ sym more
      | resolved_fields-else-is_none w ↦
          let yes : is_some x.scoped ≡ true = c.is_none.ensures ∙ ap not w.if-is_none.false in
          ap (λ v. map field_view v.items) w.resolved-is ∙ before ∙ sym (append-nil done)
          ∙ ap (λ fs. done ++ fs) (sym (only_nowhere (field_view x).label.scoped one (scoped ∙ yes))) ∙ sym more
    ]

pub resolved_fields-returns : goal.resolved_fields-returns
resolved_fields-returns t c all ts scope ss tells own told =
    ap fields_of (c.loop-field.invariant all ts scope ss tells own told)
    ∙ ap (λ fs. fields_of (flat_map (kept_field (known ts) (is_open ts) c.args.self.now.file scope ss) fs)) (take_all c.loop-field.field-index c.args.fields.now c.loop-field-test.false)
    ∙ kept_fields (known ts) (is_open ts) c.args.self.now.file scope ss c.args.fields.now

pub resolved_declarations-loop-declaration-preserved : goal.resolved_declarations-loop-declaration-preserved
resolved_declarations-loop-declaration-preserved t c all ts scope ss tells own told =
    let by = known ts in let opens = is_open ts in
    let i = c.args.self.now.file in
    let xs = c.args.declarations.now in
    let k = c.loop-declaration.declaration-index in
    let x = c.declaration-item.result in
    let done = flat_map (λ d. kept_seen by opens i scope ss (declaration_view d)) (take k xs) in
    let more = gathered_more (λ ys. flat_map (λ d. kept_seen by opens i scope ss (declaration_view d)) ys) (λ d. kept_seen by opens i scope ss (declaration_view d)) refl (λ d ds. refl) xs k x c.loop-declaration-test.true c.declaration-item.is in
    let before = c.loop-declaration.invariant all ts scope ss tells own told in
    elim c.if-not-is_scoped.branch [
      | resolved_declarations-then-not-is_scoped+in_ok-resolved_declaration+in_ok-push w ↦
          let no : c.is_scoped.result ≡ false = search (rules, w.if-not-is_scoped.true) in
          ap (λ v. map declaration_view v.items) w.resolved-is ∙ ap (map declaration_view) w.in_ok-push.ensures.items ∙ map-append declaration_view c.loop-declaration.resolved.items _
          ∙ ap₂ (λ ds d. ds ++ d ∷ []) before (w.in_ok-resolved_declaration.ensures all ts scope ss tells own told)
          ∙ ap (λ ds. done ++ ds) (sym (kept by opens i scope ss (declaration_view x) (sym c.is_scoped.ensures ∙ no))) ∙ sym more
      | resolved_declarations-else-not-is_scoped w ↦
          let yes : c.is_scoped.result ≡ true = search (rules, w.if-not-is_scoped.false) in
          ap (λ v. map declaration_view v.items) w.resolved-is ∙ before ∙ sym (append-nil done)
          ∙ ap (λ ds. done ++ ds) (sym (lost by opens i scope ss (declaration_view x) (sym c.is_scoped.ensures ∙ yes))) ∙ sym more
    ]

pub resolved_declarations-returns : goal.resolved_declarations-returns
resolved_declarations-returns t c all ts scope ss tells own told =
    ap declarations_of (c.loop-declaration.invariant all ts scope ss tells own told)
    ∙ ap (λ ds. declarations_of (flat_map (λ d. kept_seen (known ts) (is_open ts) c.args.self.now.file scope ss (declaration_view d)) ds)) (take_all c.loop-declaration.declaration-index c.args.declarations.now c.loop-declaration-test.false)
    ∙ kept_declarations (known ts) (is_open ts) c.args.self.now.file scope ss c.args.declarations.now

-- ---- values

pub resolved_value-returns : goal.resolved_value-returns
resolved_value-returns t c all ts scope ss tells own told =
    let f = c.args.field.now in
    let here = value_scope (field_view f).label scope in
    let around = inside_of c.of_value.result here c.args.outside.now c.deref.result.now ss (c.deref.ensures.value ∙ c.in_ok-scopes.ensures) (c.of_value.ensures scope own) told in
    subst (λ x. IfOk c.resolved.result (λ e. expr_view e ≡ Spec.resolved (known ts) (is_open ts) c.args.self.now.file (here ∷ ss) x)) (sym (view-value f)) (c.resolved.ensures all ts (here ∷ ss) tells around)

pub resolved_inside-returns : goal.resolved_inside-returns
resolved_inside-returns t c all ts scope ss tells own told =
    let around = inside_of c.whole.result scope c.args.outside.now c.deref.result.now ss (c.deref.ensures.value ∙ c.in_ok-scopes.ensures) (c.whole.ensures scope own) told in
    c.resolved.ensures all ts (scope ∷ ss) tells around

-- ---- expressions

pub resolved-returns-in_ok-fields-in-Struct : goal.resolved-returns-in_ok-fields-in-Struct
resolved-returns-in_ok-fields-in-Struct t c all ts ss tells told =
    let by = known ts in let opens = is_open ts in
    let i = c.args.self.now.file in
    let o = c.in-Struct.at in
    let b = c.in-Struct.opened in
    let scope = scope_of_fields i (fields_view c.in-Struct.fields.items) in
    let is = ap expr_view c.in-Struct.is ∙ view-Struct o c.in-Struct.fields b in
    let own = subst (λ fs. TellsScope c.in_ok-own-in-Struct.own (scope_of_fields i (fields_view fs))) c.deref-in-Struct.ensures.value c.in_ok-own-in-Struct.ensures in
    let same = c.in_ok-fields-in-Struct.ensures all ts scope ss tells own told ∙ ap (λ fs. Spec.resolved_fields by opens i scope ss (fields_view fs)) c.deref-in-Struct-2.ensures.value in
    view-Struct o c.in_ok-fields-in-Struct.fields b ∙ ap (λ fs. T.struct o fs b) same ∙ sym (ap (Spec.resolved by opens i ss) is)

pub resolved-returns-in_ok-end-in-List : goal.resolved-returns-in_ok-end-in-List
resolved-returns-in_ok-end-in-List t c all ts ss tells told =
    let by = known ts in let opens = is_open ts in let i = c.args.self.now.file in
    let is = ap expr_view c.in-List.is ∙ view-List c.in-List.front c.in-List.end in
    let front = c.in_ok-front-in-List.ensures all ts ss tells told ∙ ap (λ es. Spec.resolved_each by opens i ss (exprs_view es)) c.deref-in-List.ensures.value in
    view-List c.in_ok-front-in-List.front c.in_ok-end-in-List.end ∙ ap₂ T.list front (c.in_ok-end-in-List.ensures all ts ss tells told) ∙ sym (ap (Spec.resolved by opens i ss) is)

pub resolved-returns-in-Name : goal.resolved-returns-in-Name
resolved-returns-in-Name t c all ts ss tells told =
    let is = ap expr_view c.in-Name.is ∙ view-Name c.in-Name.text c.in-Name.at in
    subst (λ e. IfOk c.name.result (λ r. expr_view r ≡ Spec.resolved (known ts) (is_open ts) c.args.self.now.file ss e)) (sym is) (c.name.ensures all ts ss tells told)

pub resolved-returns-in-Reference : goal.resolved-returns-in-Reference
resolved-returns-in-Reference t c all ts ss tells told =
    let is = ap expr_view c.in-Reference.is ∙ view-Reference c.in-Reference.text c.in-Reference.at in
    subst (λ e. IfOk c.reference.result (λ r. expr_view r ≡ Spec.resolved (known ts) (is_open ts) c.args.self.now.file ss e)) (sym is) (c.reference.ensures all ts ss tells told)

pub resolved-returns-in-Wide : goal.resolved-returns-in-Wide
resolved-returns-in-Wide t c all ts ss tells told =
    let is = ap expr_view c.in-Wide.is ∙ view-Wide c.in-Wide.form in
    subst (λ e. IfOk c.resolved_wide.result (λ r. expr_view r ≡ Spec.resolved (known ts) (is_open ts) c.args.self.now.file ss e)) (sym is) (c.resolved_wide.ensures all ts ss tells told)

pub resolved_wide-returns-in-Selected : goal.resolved_wide-returns-in-Selected
resolved_wide-returns-in-Selected t c all ts ss tells told =
    let o = c.in-Selected.at in
    let is = ap wide_view c.in-Selected.is ∙ view-Selected o c.in-Selected.name c.in-Selected.labels in
    let same = ap₂ (λ s ls. T.selected o s (map selector_view ls)) c.deref-in-Selected.ensures c.deref-in-Selected-2.ensures.value ∙ sym is in
    subst (λ w. IfOk c.selector.result (λ r. expr_view r ≡ Spec.resolved_wide (known ts) (is_open ts) c.args.self.now.file ss w)) same (c.selector.ensures all ts ss tells told)

pub resolved_wide-returns-in_ok-declarations-in-Merged : goal.resolved_wide-returns-in_ok-declarations-in-Merged
resolved_wide-returns-in_ok-declarations-in-Merged t c all ts ss tells told =
    let by = known ts in let opens = is_open ts in
    let i = c.args.self.now.file in
    let o = c.in-Merged.at in
    let b = c.in-Merged.opened in
    let scope = scope_of_declarations i (declarations_view c.in-Merged.declarations.items) in
    let is = ap wide_view c.in-Merged.is ∙ view-Merged o c.in-Merged.declarations b in
    let own = subst (λ ds. TellsScope c.in_ok-own-in-Merged.own (scope_of_declarations i (declarations_view ds))) c.deref-in-Merged.ensures.value c.in_ok-own-in-Merged.ensures in
    let same = c.in_ok-declarations-in-Merged.ensures all ts scope ss tells own told ∙ ap (λ ds. Spec.resolved_declarations by opens i scope ss (declarations_view ds)) c.deref-in-Merged-2.ensures.value in
    view-Wide _ ∙ ap T.wide (view-Merged o c.in_ok-declarations-in-Merged.declarations b ∙ ap (λ ds. T.merged o ds b) same) ∙ sym (ap (Spec.resolved_wide by opens i ss) is)

-- ---- forms of one part

pub resolved-returns-in_ok-new-in-Paren : goal.resolved-returns-in_ok-new-in-Paren
resolved-returns-in_ok-new-in-Paren t c all ts ss tells told =
    let i = c.args.self.now.file in
    let is = ap (Spec.resolved (known ts) (is_open ts) i ss) (ap expr_view c.in-Paren.is ∙ view-Paren c.in-Paren.inside) in
    let made = c.in_ok-inside-in-Paren.ensures all ts ss tells told ∙ ap (λ e. Spec.resolved (known ts) (is_open ts) i ss (expr_view e)) c.deref-in-Paren.ensures in
    view-Paren c.in_ok-new-in-Paren.field-0 ∙ ap (λ e. T.paren (expr_view e)) c.in_ok-new-in-Paren.ensures.ok ∙ ap T.paren made ∙ sym is

pub resolved_wide-returns-in_ok-value-in-Marked-2 : goal.resolved_wide-returns-in_ok-value-in-Marked-2
resolved_wide-returns-in_ok-value-in-Marked-2 t c all ts ss tells told =
    let i = c.args.self.now.file in
    let o = c.in-Marked.at in
    let v = c.in_ok-value-in-Marked-2 in
    let is = ap (Spec.resolved_wide (known ts) (is_open ts) i ss) (ap wide_view c.in-Marked.is ∙ view-Marked o c.in-Marked.value) in
    let made = c.in_ok-value-in-Marked.ensures all ts ss tells told ∙ ap (λ e. Spec.resolved (known ts) (is_open ts) i ss (expr_view e)) c.deref.ensures in
    view-Wide _ ∙ ap T.wide (view-Marked o v.value ∙ ap (λ e. T.marked o (expr_view e)) v.ensures.ok ∙ ap (T.marked o) made) ∙ sym is

pub resolved_wide-returns-in_ok-value-in-Shut-2 : goal.resolved_wide-returns-in_ok-value-in-Shut-2
resolved_wide-returns-in_ok-value-in-Shut-2 t c all ts ss tells told =
    let i = c.args.self.now.file in
    let o = c.in-Shut.at in
    let v = c.in_ok-value-in-Shut-2 in
    let is = ap (Spec.resolved_wide (known ts) (is_open ts) i ss) (ap wide_view c.in-Shut.is ∙ view-Shut o c.in-Shut.value) in
    let made = c.in_ok-value-in-Shut.ensures all ts ss tells told ∙ ap (λ e. Spec.resolved (known ts) (is_open ts) i ss (expr_view e)) c.deref-in-Shut.ensures in
    view-Wide _ ∙ ap T.wide (view-Shut o v.value ∙ ap (λ e. T.shut o (expr_view e)) v.ensures.ok ∙ ap (T.shut o) made) ∙ sym is

pub resolved_end-returns-in_ok-new-in-Each : goal.resolved_end-returns-in_ok-new-in-Each
resolved_end-returns-in_ok-new-in-Each t c all ts ss tells told =
    let i = c.args.self.now.file in
    let is = ap (Spec.resolved_end (known ts) (is_open ts) i ss) (ap end_view c.in-Each.is ∙ view-Each c.in-Each.each) in
    let made = c.in_ok-each-in-Each.ensures all ts ss tells told ∙ ap (λ e. Spec.resolved (known ts) (is_open ts) i ss (expr_view e)) c.deref.ensures in
    view-Each c.in_ok-new-in-Each.field-0 ∙ ap (λ e. T.each (expr_view e)) c.in_ok-new-in-Each.ensures.ok ∙ ap T.each made ∙ sym is

-- ---- declarations

pub resolved_declaration-returns-in_ok-field-in-Field : goal.resolved_declaration-returns-in_ok-field-in-Field
resolved_declaration-returns-in_ok-field-in-Field t c all ts scope ss tells own told =
    let seen = resolved_seen (known ts) (is_open ts) c.args.self.now.file scope ss in
    let is = ap seen (ap declaration_view c.in-Field.is ∙ view-declared-field c.in-Field.field) in
    view-declared-field c.in_ok-field-in-Field.field ∙ ap field_seen (c.in_ok-field-in-Field.ensures all ts scope ss tells own told) ∙ sym is

pub resolved_declaration-returns-in_ok-value-in-Embedded : goal.resolved_declaration-returns-in_ok-value-in-Embedded
resolved_declaration-returns-in_ok-value-in-Embedded t c all ts scope ss tells own told =
    let seen = resolved_seen (known ts) (is_open ts) c.args.self.now.file scope ss in
    let o = c.in-Embedded.at in
    let is = ap seen (ap declaration_view c.in-Embedded.is ∙ view-embedded o c.in-Embedded.value) in
    view-embedded o c.in_ok-value-in-Embedded.value ∙ ap (embedding_seen o) (c.in_ok-value-in-Embedded.ensures all ts scope ss tells own told) ∙ sym is

pub resolved_declaration-returns-in_ok-value-in-Conditional : goal.resolved_declaration-returns-in_ok-value-in-Conditional
resolved_declaration-returns-in_ok-value-in-Conditional t c all ts scope ss tells own told =
    let seen = resolved_seen (known ts) (is_open ts) c.args.self.now.file scope ss in
    let o = c.in-Conditional.at in
    let is = ap seen (ap declaration_view c.in-Conditional.is ∙ view-conditional o c.in-Conditional.conditions c.in-Conditional.value) in
    let same = c.in_ok-conditions-in-Conditional.ensures ∙ ap (map condition_view) c.deref.ensures.value in
    view-conditional o c.in_ok-conditions-in-Conditional.conditions c.in_ok-value-in-Conditional.value ∙ ap₂ (conditional_seen o) same (c.in_ok-value-in-Conditional.ensures all ts scope ss tells own told) ∙ sym is
