use Rattle.std.proofs.Common.{◌≡◌, map, sym, ap, ap₂, subst, ◌∙◌, IfOk}
use Rattle.std.proofs.lemmas.List.{take_all}
use Rattle.cs_grammar.specs.Tree.{conjunction, paren, struct, list, wide, marked, merged, shut}
use Rattle.cs_grammar.specs.View.{expr_view, exprs_view, trees_of, end_view, fields_of, fields_view, declarations_of, wide_view, field_view, declaration_view, declarations_view, condition_view, field_seen, embedding_seen, conditional_seen}
use Rattle.cs_grammar.proofs.Views.{view-And, view-Paren, view-Struct, view-List, view-Wide, view-Marked, view-Merged, view-Shut, view-Reference, view-declared-field, view-embedded, view-conditional}
use Rattle.cs_plain.specs.Checks.{placed_field_seen, placed_seen}
use Rattle.cs_plain.specs.Placed as Spec
use Rattle.cs_plain.proofs.Copied.{placed_trees, placed_field_list, placed_parts}
use Rattle.cs_plain.proofs.Walks.{map_pushed}
use Rattle.cs_plain.proofs.placed.Placing.+place.Goals as goal

-- ---- lists

pub placed_each-returns : goal.placed_each-returns
placed_each-returns t c value hides told =
    let xs = c.args.exprs.now in
    ap trees_of (c.loop-expr.invariant value hides told ∙ ap (map (λ e. Spec.placed value hides c.args.standing (expr_view e))) (take_all c.loop-expr.expr-index xs c.loop-expr-test.false)) ∙ placed_trees value hides c.args.standing xs

pub placed_fields-returns : goal.placed_fields-returns
placed_fields-returns t c value hides told =
    let xs = c.args.fields.now in
    ap fields_of (c.loop-field.invariant value hides told ∙ ap (map (λ f. placed_field_seen value hides c.args.standing (field_view f))) (take_all c.loop-field.field-index xs c.loop-field-test.false)) ∙ placed_field_list value hides c.args.standing xs

pub placed_declarations-returns : goal.placed_declarations-returns
placed_declarations-returns t c value hides told =
    let xs = c.args.declarations.now in
    ap declarations_of (c.loop-declaration.invariant value hides told ∙ ap (map (λ d. placed_seen value hides c.args.standing (declaration_view d))) (take_all c.loop-declaration.declaration-index xs c.loop-declaration-test.false)) ∙ placed_parts value hides c.args.standing xs

pub placed_declarations-loop-declaration-preserved : goal.placed_declarations-loop-declaration-preserved
placed_declarations-loop-declaration-preserved t c value hides told =
    map_pushed (λ d. placed_seen value hides c.args.standing (declaration_view d)) declaration_view c.args.declarations.now c.loop-declaration.declaration-index c.declaration-item.result
    c.loop-declaration-test.true c.declaration-item.is _ _ _ c.in_ok-push.ensures.items (c.loop-declaration.invariant value hides told) (c.in_ok-placed_declaration.ensures value hides told)

-- ---- expressions

pub placed-returns-in_ok-fields-in-Struct : goal.placed-returns-in_ok-fields-in-Struct
placed-returns-in_ok-fields-in-Struct t c value hides told =
    let o = c.in-Struct.at in
    let b = c.in-Struct.opened in
    let fs = c.in-Struct.fields.items in
    let is = ap (Spec.placed value hides c.args.standing) (ap expr_view c.in-Struct.is ∙ view-Struct o c.in-Struct.fields b) in
    let hidden = c.fields_hide.ensures value hides told ∙ ap (λ ys. Spec.fields_hide value hides (fields_view ys)) c.deref-in-Struct.ensures.value in
    let stands = c.in_literal-within.ensures ∙ ap (λ h. Spec.in_literal h c.args.standing) hidden in
    let made = c.in_ok-fields-in-Struct.ensures value hides told ∙ ap₂ (λ p ys. Spec.placed_fields value hides p (fields_view ys)) stands c.deref-in-Struct-2.ensures.value in
    view-Struct o c.in_ok-fields-in-Struct.fields b ∙ ap (λ ys. struct o ys b) made ∙ sym is

pub placed-returns-in_ok-end-in-List : goal.placed-returns-in_ok-end-in-List
placed-returns-in_ok-end-in-List t c value hides told =
    let is = ap (Spec.placed value hides c.args.standing) (ap expr_view c.in-List.is ∙ view-List c.in-List.front c.in-List.end) in
    let front = c.in_ok-front-in-List.ensures value hides told ∙ ap₂ (λ p es. Spec.placed_each value hides p (exprs_view es)) c.as_alone.ensures c.deref-in-List.ensures.value in
    let end = c.in_ok-end-in-List.ensures value hides told ∙ ap (λ p. Spec.placed_end value hides p (end_view c.in-List.end)) c.as_alone-in-List.ensures in
    view-List c.in_ok-front-in-List.front c.in_ok-end-in-List.end ∙ ap₂ list front end ∙ sym is

pub placed-returns-in_ok-placed_form-in-Wide : goal.placed-returns-in_ok-placed_form-in-Wide
placed-returns-in_ok-placed_form-in-Wide t c value hides told =
    let is = ap (Spec.placed value hides c.args.standing) (ap expr_view c.in-Wide.is ∙ view-Wide c.in-Wide.form) in
    view-Wide _ ∙ ap wide (c.in_ok-placed_form-in-Wide.ensures value hides told) ∙ sym is

pub placed-returns-in-Reference : goal.placed-returns-in-Reference
placed-returns-in-Reference t c value hides told =
    let is = ap (Spec.placed value hides c.args.standing) (ap expr_view c.in-Reference.is ∙ view-Reference c.in-Reference.text c.in-Reference.at) in
    subst (λ e. IfOk c.reference.result (λ f. expr_view f ≡ e)) (sym is) (c.reference.ensures value hides told)

-- ---- declarations

pub placed_declaration-returns-in_ok-field-in-Field : goal.placed_declaration-returns-in_ok-field-in-Field
placed_declaration-returns-in_ok-field-in-Field t c value hides told =
    let is = ap (placed_seen value hides c.args.standing) (ap declaration_view c.in-Field.is ∙ view-declared-field c.in-Field.field) in
    view-declared-field c.in_ok-field-in-Field.field ∙ ap field_seen (c.in_ok-field-in-Field.ensures value hides told) ∙ sym is

pub placed_declaration-returns-in_ok-value-in-Embedded : goal.placed_declaration-returns-in_ok-value-in-Embedded
placed_declaration-returns-in_ok-value-in-Embedded t c value hides told =
    let o = c.in-Embedded.at in
    let is = ap (placed_seen value hides c.args.standing) (ap declaration_view c.in-Embedded.is ∙ view-embedded o c.in-Embedded.value) in
    view-embedded o c.in_ok-value-in-Embedded.value ∙ ap (embedding_seen o) (c.in_ok-value-in-Embedded.ensures value hides told) ∙ sym is

pub placed_declaration-returns-in_ok-value-in-Conditional : goal.placed_declaration-returns-in_ok-value-in-Conditional
placed_declaration-returns-in_ok-value-in-Conditional t c value hides told =
    let o = c.in-Conditional.at in
    let is = ap (placed_seen value hides c.args.standing) (ap declaration_view c.in-Conditional.is ∙ view-conditional o c.in-Conditional.conditions c.in-Conditional.value) in
    let same = c.in_ok-conditions-in-Conditional.ensures ∙ ap (map condition_view) c.deref.ensures.value in
    view-conditional o c.in_ok-conditions-in-Conditional.conditions c.in_ok-value-in-Conditional.value ∙ ap₂ (conditional_seen o) same (c.in_ok-value-in-Conditional.ensures value hides told) ∙ sym is

pub placed_form-returns-in_ok-declarations-in-Merged : goal.placed_form-returns-in_ok-declarations-in-Merged
placed_form-returns-in_ok-declarations-in-Merged t c value hides told =
    let o = c.in-Merged.at in
    let b = c.in-Merged.opened in
    let is = ap (Spec.placed_wide value hides c.args.standing) (ap wide_view c.in-Merged.is ∙ view-Merged o c.in-Merged.declarations b) in
    let hidden = c.declarations_hide.ensures value hides told ∙ ap (λ ys. Spec.declarations_hide value hides (declarations_view ys)) c.deref-in-Merged.ensures.value in
    let stands = c.in_literal-within.ensures ∙ ap (λ h. Spec.in_literal h c.args.standing) hidden in
    let made = c.in_ok-declarations-in-Merged.ensures value hides told ∙ ap₂ (λ p ys. Spec.placed_declarations value hides p (declarations_view ys)) stands c.deref-in-Merged-2.ensures.value in
    view-Merged o c.in_ok-declarations-in-Merged.declarations b ∙ ap (λ ds. merged o ds b) made ∙ sym is

pub placed_form-returns-in_ok-value-in-Shut-2 : goal.placed_form-returns-in_ok-value-in-Shut-2
placed_form-returns-in_ok-value-in-Shut-2 t c value hides told =
    let o = c.in-Shut.at in
    let is = ap (Spec.placed_wide value hides c.args.standing) (ap wide_view c.in-Shut.is ∙ view-Shut o c.in-Shut.value) in
    let made = c.in_ok-value-in-Shut.ensures value hides told ∙ ap₂ (λ p e. Spec.placed value hides p (expr_view e)) c.as_enclosed.ensures c.deref-in-Shut.ensures in
    view-Shut o c.in_ok-value-in-Shut-2.value ∙ ap (λ e. shut o (expr_view e)) c.in_ok-value-in-Shut-2.ensures.ok ∙ ap (shut o) made ∙ sym is

-- ---- forms of one part

pub placed-returns-in_ok-placed_each-in-And : goal.placed-returns-in_ok-placed_each-in-And
placed-returns-in_ok-placed_each-in-And t c value hides told =
    let is = ap (Spec.placed value hides c.args.standing) (ap expr_view c.in-And.is ∙ view-And c.in-And.operands) in
    let made = c.in_ok-placed_each-in-And.ensures value hides told ∙ ap₂ (λ p es. Spec.placed_each value hides p (exprs_view es)) c.as_operand.ensures c.deref.ensures.value in
    view-And c.in_ok-placed_each-in-And.field-0 ∙ ap conjunction made ∙ sym is

pub placed-returns-in_ok-new-in-Paren : goal.placed-returns-in_ok-new-in-Paren
placed-returns-in_ok-new-in-Paren t c value hides told =
    let is = ap (Spec.placed value hides c.args.standing) (ap expr_view c.in-Paren.is ∙ view-Paren c.in-Paren.inside) in
    let made = c.in_ok-inside-in-Paren.ensures value hides told ∙ ap₂ (λ p e. Spec.placed value hides p (expr_view e)) c.in_parens.ensures c.deref-in-Paren.ensures in
    view-Paren c.in_ok-new-in-Paren.field-0 ∙ ap (λ e. paren (expr_view e)) c.in_ok-new-in-Paren.ensures.ok ∙ ap paren made ∙ sym is

pub placed_form-returns-in_ok-value-in-Marked-2 : goal.placed_form-returns-in_ok-value-in-Marked-2
placed_form-returns-in_ok-value-in-Marked-2 t c value hides told =
    let o = c.in-Marked.at in
    let is = ap (Spec.placed_wide value hides c.args.standing) (ap wide_view c.in-Marked.is ∙ view-Marked o c.in-Marked.value) in
    let made = c.in_ok-value-in-Marked.ensures value hides told ∙ ap₂ (λ p e. Spec.placed value hides p (expr_view e)) c.as_operand.ensures c.deref.ensures in
    view-Marked o c.in_ok-value-in-Marked-2.value ∙ ap (λ e. marked o (expr_view e)) c.in_ok-value-in-Marked-2.ensures.ok ∙ ap (marked o) made ∙ sym is
