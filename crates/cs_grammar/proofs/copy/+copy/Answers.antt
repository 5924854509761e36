use Rattle.std.proofs.Common.{map, sym, ap, ap₂, ◌∙◌}
use Rattle.cs_grammar.proofs.Copies.{copied_more, all_copied}
use Rattle.cs_grammar.proofs.Views.{view-And, view-Or, view-Struct, view-List, view-Merged, view-declared-field, view-embedded, view-conditional}
use Rattle.cs_grammar.specs.Tree as T
use Rattle.cs_grammar.specs.View.{expr_view, field_view, declaration_view, wide_view, condition_view, trees_of, fields_of, declarations_of, field_seen, embedding_seen, conditional_seen}
use Rattle.cs_grammar.proofs.copy.+copy.Goals as goal

-- ---- lists

pub copied_each-loop-expr-preserved : goal.copied_each-loop-expr-preserved
copied_each-loop-expr-preserved t c =
    copied_more expr_view c.args.exprs.now c.loop-expr.expr-index c.expr-item.result c.loop-expr-test.true c.expr-item.is _ _ _ c.in_ok-push.ensures.items
    c.loop-expr.invariant c.in_ok-copied.ensures

pub copied_each-returns : goal.copied_each-returns
copied_each-returns t c = all_copied expr_view c.args.exprs.now c.loop-expr.expr-index c.loop-expr-test.false _ c.loop-expr.invariant

pub copied_fields-loop-field-preserved : goal.copied_fields-loop-field-preserved
copied_fields-loop-field-preserved t c =
    copied_more field_view c.args.fields.now c.loop-field.field-index c.field-item.result c.loop-field-test.true c.field-item.is _ _ _ c.in_ok-push.ensures.items
    c.loop-field.invariant c.in_ok-copied_field.ensures

pub copied_fields-returns : goal.copied_fields-returns
copied_fields-returns t c = all_copied field_view c.args.fields.now c.loop-field.field-index c.loop-field-test.false _ c.loop-field.invariant

pub copied_declarations-loop-declaration-preserved : goal.copied_declarations-loop-declaration-preserved
copied_declarations-loop-declaration-preserved t c =
    copied_more declaration_view c.args.declarations.now c.loop-declaration.declaration-index c.declaration-item.result c.loop-declaration-test.true
    c.declaration-item.is _ _ _ c.in_ok-push.ensures.items c.loop-declaration.invariant c.in_ok-copied_declaration.ensures

pub copied_declarations-returns : goal.copied_declarations-returns
copied_declarations-returns t c =
    all_copied declaration_view c.args.declarations.now c.loop-declaration.declaration-index c.loop-declaration-test.false _ c.loop-declaration.invariant

-- ---- expressions

pub copied-returns-in_ok-copied_each-in-And : goal.copied-returns-in_ok-copied_each-in-And
copied-returns-in_ok-copied_each-in-And t c =
    let is = ap expr_view c.in-And.is ∙ view-And c.in-And.operands in
    let same = c.in_ok-copied_each-in-And.ensures ∙ ap (map expr_view) c.deref.ensures.value in
    view-And c.in_ok-copied_each-in-And.field-0 ∙ ap (λ es. T.conjunction (trees_of es)) same ∙ sym is

pub copied-returns-in_ok-copied_each-in-Or : goal.copied-returns-in_ok-copied_each-in-Or
copied-returns-in_ok-copied_each-in-Or t c =
    let is = ap expr_view c.in-Or.is ∙ view-Or c.in-Or.operands in
    let same = c.in_ok-copied_each-in-Or.ensures ∙ ap (map expr_view) c.deref-in-Or.ensures.value in
    view-Or c.in_ok-copied_each-in-Or.field-0 ∙ ap (λ es. T.disjunction (trees_of es)) same ∙ sym is

pub copied-returns-in_ok-fields-in-Struct : goal.copied-returns-in_ok-fields-in-Struct
copied-returns-in_ok-fields-in-Struct t c =
    let o = c.in-Struct.at in let b = c.in-Struct.opened in
    let is = ap expr_view c.in-Struct.is ∙ view-Struct o c.in-Struct.fields b in
    let same = c.in_ok-fields-in-Struct.ensures ∙ ap (map field_view) c.deref-in-Struct.ensures.value in
    view-Struct o c.in_ok-fields-in-Struct.fields b ∙ ap (λ fs. T.struct o (fields_of fs) b) same ∙ sym is

pub copied-returns-in_ok-end-in-List : goal.copied-returns-in_ok-end-in-List
copied-returns-in_ok-end-in-List t c =
    let is = ap expr_view c.in-List.is ∙ view-List c.in-List.front c.in-List.end in
    let front = c.in_ok-front-in-List.ensures ∙ ap (map expr_view) c.deref-in-List.ensures.value in
    view-List c.in_ok-front-in-List.front c.in_ok-end-in-List.end ∙ ap₂ (λ es d. T.list (trees_of es) d) front c.in_ok-end-in-List.ensures ∙ sym is

-- ---- forms of the wide profile

pub copied_form-returns-in_ok-declarations-in-Merged : goal.copied_form-returns-in_ok-declarations-in-Merged
copied_form-returns-in_ok-declarations-in-Merged t c =
    let o = c.in-Merged.at in let b = c.in-Merged.opened in
    let is = ap wide_view c.in-Merged.is ∙ view-Merged o c.in-Merged.declarations b in
    let same = c.in_ok-declarations-in-Merged.ensures ∙ ap (map declaration_view) c.deref-in-Merged.ensures.value in
    view-Merged o c.in_ok-declarations-in-Merged.declarations b ∙ ap (λ ds. T.merged o (declarations_of ds) b) same ∙ sym is

pub copied_declaration-returns-in_ok-copied_field-in-Field : goal.copied_declaration-returns-in_ok-copied_field-in-Field
copied_declaration-returns-in_ok-copied_field-in-Field t c =
    let is = ap declaration_view c.in-Field.is ∙ view-declared-field c.in-Field.field in
    view-declared-field c.in_ok-copied_field-in-Field.field-0 ∙ ap field_seen c.in_ok-copied_field-in-Field.ensures ∙ sym is

pub copied_declaration-returns-in_ok-value-in-Embedded : goal.copied_declaration-returns-in_ok-value-in-Embedded
copied_declaration-returns-in_ok-value-in-Embedded t c =
    let o = c.in-Embedded.at in
    let is = ap declaration_view c.in-Embedded.is ∙ view-embedded o c.in-Embedded.value in
    view-embedded o c.in_ok-value-in-Embedded.value ∙ ap (embedding_seen o) c.in_ok-value-in-Embedded.ensures ∙ sym is

pub copied_declaration-returns-in_ok-value-in-Conditional : goal.copied_declaration-returns-in_ok-value-in-Conditional
copied_declaration-returns-in_ok-value-in-Conditional t c =
    let o = c.in-Conditional.at in
    let is = ap declaration_view c.in-Conditional.is ∙ view-conditional o c.in-Conditional.conditions c.in-Conditional.value in
    let tests = c.in_ok-conditions-in-Conditional.ensures ∙ ap (map condition_view) c.deref.ensures.value in
    view-conditional o c.in_ok-conditions-in-Conditional.conditions c.in_ok-value-in-Conditional.value
    ∙ ap₂ (conditional_seen o) tests c.in_ok-value-in-Conditional.ensures ∙ sym is
