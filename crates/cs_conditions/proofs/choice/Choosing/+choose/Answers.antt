use Rattle.std.proofs.Common.{map, sym, ap, ap₂, ◌∙◌}
use Rattle.std.proofs.lemmas.List.{take_all}
use Rattle.cs_grammar.specs.View.{expr_view, exprs_view, fields_view, trees_of, fields_of, declarations_of, wide_view, field_view, declaration_view, declarations_view, condition_view, field_seen, embedding_seen}
use Rattle.cs_grammar.specs.Tree.{struct, list, wide, marked, merged, shut}
use Rattle.cs_grammar.proofs.Views.{view-Struct, view-List, view-Wide, view-Marked, view-Merged, view-Shut, view-declared-field, view-embedded, view-conditional}
use Rattle.cs_conditions.specs.Checks.{chosen_field_seen, chosen_seen}
use Rattle.cs_conditions.specs.Choice.{choice}
use Rattle.cs_conditions.specs.Chosen as Spec
use Rattle.cs_conditions.specs.Chosen.{chosen_each, chosen_fields, chosen_declarations}
use Rattle.cs_conditions.proofs.Walks.{map_pushed}
use Rattle.cs_conditions.proofs.Parts.{chosen_trees, chosen_field_list, chosen_parts}
use Rattle.cs_conditions.proofs.choice.Choosing.+choose.Goals as goal

pub chosen_each-returns : goal.chosen_each-returns
chosen_each-returns t c known tells =
    let xs = c.args.exprs.now in
    ap trees_of (c.loop-expr.invariant known tells ∙ ap (map (λ e. Spec.chosen known (expr_view e))) (take_all c.loop-expr.expr-index xs c.loop-expr-test.false)) ∙ chosen_trees known xs

pub chosen_fields-returns : goal.chosen_fields-returns
chosen_fields-returns t c known tells =
    let xs = c.args.fields.now in
    ap fields_of (c.loop-field.invariant known tells ∙ ap (map (λ f. chosen_field_seen known (field_view f))) (take_all c.loop-field.field-index xs c.loop-field-test.false)) ∙ chosen_field_list known xs

pub chosen_declarations-returns : goal.chosen_declarations-returns
chosen_declarations-returns t c known all tells told =
    let xs = c.args.declarations.now in
    ap declarations_of (c.loop-declaration.invariant known all tells told ∙ ap (map (λ d. chosen_seen known all (declaration_view d))) (take_all c.loop-declaration.declaration-index xs c.loop-declaration-test.false))
    ∙ chosen_parts known all xs

pub chosen-returns-in_ok-end-in-List : goal.chosen-returns-in_ok-end-in-List
chosen-returns-in_ok-end-in-List t c known tells =
    let is = ap (Spec.chosen known) (ap expr_view c.in-List.is ∙ view-List c.in-List.front c.in-List.end) in
    let front = c.in_ok-front-in-List.ensures known tells ∙ ap (λ es. chosen_each known (exprs_view es)) c.deref-in-List.ensures.value in
    view-List c.in_ok-front-in-List.front c.in_ok-end-in-List.end ∙ ap₂ list front (c.in_ok-end-in-List.ensures known tells) ∙ sym is

pub chosen_declarations-loop-declaration-preserved : goal.chosen_declarations-loop-declaration-preserved
chosen_declarations-loop-declaration-preserved t c known all tells told =
    map_pushed (λ d. chosen_seen known all (declaration_view d)) declaration_view c.args.declarations.now c.loop-declaration.declaration-index c.declaration-item.result
    c.loop-declaration-test.true c.declaration-item.is _ _ _ c.in_ok-push.ensures.items (c.loop-declaration.invariant known all tells told) (c.in_ok-chosen_declaration.ensures known all tells told)

pub chosen_declaration-returns-in_ok-chosen_field-in-Field : goal.chosen_declaration-returns-in_ok-chosen_field-in-Field
chosen_declaration-returns-in_ok-chosen_field-in-Field t c known all tells told =
    let is = ap (chosen_seen known all) (ap declaration_view c.in-Field.is ∙ view-declared-field c.in-Field.field) in
    view-declared-field c.in_ok-chosen_field-in-Field.field-0 ∙ ap field_seen (c.in_ok-chosen_field-in-Field.ensures known tells) ∙ sym is

pub chosen_declaration-returns-in_ok-value-in-Embedded : goal.chosen_declaration-returns-in_ok-value-in-Embedded
chosen_declaration-returns-in_ok-value-in-Embedded t c known all tells told =
    let o = c.in-Embedded.at in
    let is = ap (chosen_seen known all) (ap declaration_view c.in-Embedded.is ∙ view-embedded o c.in-Embedded.value) in
    view-embedded o c.in_ok-value-in-Embedded.value ∙ ap (embedding_seen o) (c.in_ok-value-in-Embedded.ensures known tells) ∙ sym is

pub chosen_declaration-returns-in_ok-value-in-Conditional-2 : goal.chosen_declaration-returns-in_ok-value-in-Conditional-2
chosen_declaration-returns-in_ok-value-in-Conditional-2 t c known all tells told =
    let o = c.in-Conditional.at in
    let is = ap (chosen_seen known all) (ap declaration_view c.in-Conditional.is ∙ view-conditional o c.in-Conditional.conditions c.in-Conditional.value) in
    let same = ap₂ (λ cs d. choice known all o (map condition_view cs) d) c.deref.ensures.value (c.in_ok-value-in-Conditional.ensures known tells) in
    view-embedded o c.in_ok-value-in-Conditional-2.value ∙ ap (embedding_seen o) (c.in_ok-value-in-Conditional-2.ensures known all told ∙ same) ∙ sym is

pub chosen_form-returns-in_ok-declarations-in-Merged : goal.chosen_form-returns-in_ok-declarations-in-Merged
chosen_form-returns-in_ok-declarations-in-Merged t c known tells =
    let o = c.in-Merged.at in
    let opened = c.in-Merged.opened in
    let all = declarations_view c.deref-in-Merged.result.now in
    let made = c.in_ok-declarations-in-Merged.ensures known all tells (c.in_ok-table-in-Merged.ensures known tells) in
    let same = ap₂ (λ xs ys. wide (merged o (chosen_declarations known (declarations_view xs) (declarations_view ys)) opened)) c.deref-in-Merged.ensures.value c.deref-in-Merged-2.ensures.value in
    let is = ap (λ w. Spec.chosen known (wide (wide_view w))) c.in-Merged.is in
    ap wide (view-Merged o c.in_ok-declarations-in-Merged.declarations opened) ∙ ap (λ ds. wide (merged o ds opened)) made ∙ same
    ∙ sym (is ∙ ap (λ w. Spec.chosen known (wide w)) (view-Merged o c.in-Merged.declarations opened))

-- ---- other forms

pub chosen-returns-in_ok-fields-in-Struct : goal.chosen-returns-in_ok-fields-in-Struct
chosen-returns-in_ok-fields-in-Struct t c known tells =
    let o = c.in-Struct.at in
    let opened = c.in-Struct.opened in
    let is = ap (Spec.chosen known) (ap expr_view c.in-Struct.is ∙ view-Struct o c.in-Struct.fields opened) in
    let made = c.in_ok-fields-in-Struct.ensures known tells ∙ ap (λ fs. chosen_fields known (fields_view fs)) c.deref-in-Struct.ensures.value in
    view-Struct o c.in_ok-fields-in-Struct.fields opened ∙ ap (λ fs. struct o fs opened) made ∙ sym is

pub chosen-returns-in_ok-chosen_form-in-Wide : goal.chosen-returns-in_ok-chosen_form-in-Wide
chosen-returns-in_ok-chosen_form-in-Wide t c known tells =
    let is = ap (Spec.chosen known) (ap expr_view c.in-Wide.is ∙ view-Wide c.in-Wide.form) in
    view-Wide _ ∙ c.in_ok-chosen_form-in-Wide.ensures known tells ∙ sym is

pub chosen_form-returns-in_ok-value-in-Marked-2 : goal.chosen_form-returns-in_ok-value-in-Marked-2
chosen_form-returns-in_ok-value-in-Marked-2 t c known tells =
    let o = c.in-Marked.at in
    let v = c.in_ok-value-in-Marked-2 in
    let is = ap (λ w. Spec.chosen known (wide w)) (ap wide_view c.in-Marked.is ∙ view-Marked o c.in-Marked.value) in
    let made = c.in_ok-value-in-Marked.ensures known tells ∙ ap (λ e. Spec.chosen known (expr_view e)) c.deref.ensures in
    ap wide (view-Marked o v.value ∙ ap (λ e. marked o (expr_view e)) v.ensures.ok ∙ ap (marked o) made) ∙ sym is

pub chosen_form-returns-in_ok-value-in-Shut-2 : goal.chosen_form-returns-in_ok-value-in-Shut-2
chosen_form-returns-in_ok-value-in-Shut-2 t c known tells =
    let o = c.in-Shut.at in
    let v = c.in_ok-value-in-Shut-2 in
    let is = ap (λ w. Spec.chosen known (wide w)) (ap wide_view c.in-Shut.is ∙ view-Shut o c.in-Shut.value) in
    let made = c.in_ok-value-in-Shut.ensures known tells ∙ ap (λ e. Spec.chosen known (expr_view e)) c.deref-in-Shut.ensures in
    ap wide (view-Shut o v.value ∙ ap (λ e. shut o (expr_view e)) v.ensures.ok ∙ ap (shut o) made) ∙ sym is
