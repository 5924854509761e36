use Rattle.std.proofs.Common.{rules, ◌≡◌, [], ◌++◌, map, refl, ◌∙◌}
use Rattle.std.proofs.lemmas.Result.{err_from_is_err_and}
use Rattle.cs_grammar.specs.declared.ast.Expr as Exprs
use Rattle.cs_grammar.specs.View.{expr_view, exprs_view, fields_view, declaration_view, declarations_view, end_view, condition_view}
use Rattle.cs_conditions.specs.Checks.{flaws_seen}
use Rattle.cs_conditions.specs.Faults.{flaws, chain_flaws, flaws_each, flaws_fields, flaws_declarations, flaws_end}
use Rattle.cs_conditions.proofs.Parts.{field_flaws_parts, flaws_parts, conditional_flaws}
use Rattle.cs_conditions.proofs.Found.{finds_as, ends_left, ends_here}
use Rattle.cs_conditions.proofs.Walks.{none_left, nothing_more, nothing_at_all}
use Rattle.cs_conditions.proofs.known.Known.+flaws.Goals as goal

pub check_each-loop-expr-init : goal.check_each-loop-expr-init
check_each-loop-expr-init t c known tells = refl

pub check_each-returns-in_err-check : goal.check_each-returns-in_err-check
check_each-returns-in_err-check t c known tells =
    let p = err_from_is_err_and c.from_residual.result c.from_residual.ensures.1 in
    rw (p.1, p.2) (ends_here (λ xs. flaws_each known (exprs_view xs)) (λ e. flaws known (expr_view e)) (λ e es. refl) c.args.exprs.now c.loop-expr.expr-index
    c.expr-item.result c.loop-expr-test.true c.expr-item.is (c.loop-expr.invariant known tells) _ (c.in_err-check.ensures known tells))

pub check_each-loop-expr-preserved : goal.check_each-loop-expr-preserved
check_each-loop-expr-preserved t c known tells = nothing_more (λ xs. flaws_each known (exprs_view xs)) (λ e. flaws known (expr_view e)) (λ e es. refl) c.args.exprs.now c.loop-expr.expr-index
    c.expr-item.result c.loop-expr-test.true c.expr-item.is (c.loop-expr.invariant known tells) (c.in_ok-check.ensures known tells)

pub check_each-returns : goal.check_each-returns
check_each-returns t c known tells = nothing_at_all (λ xs. flaws_each known (exprs_view xs)) c.args.exprs.now c.loop-expr.expr-index refl c.loop-expr-test.false (c.loop-expr.invariant known tells)

pub check_fields-loop-field-init : goal.check_fields-loop-field-init
check_fields-loop-field-init t c known tells = refl

pub check_fields-returns-in_err-check : goal.check_fields-returns-in_err-check
check_fields-returns-in_err-check t c known tells =
    let p = err_from_is_err_and c.from_residual.result c.from_residual.ensures.1 in
    rw (p.1, p.2) (ends_here (λ xs. flaws_fields known (fields_view xs)) (λ f. flaws known (expr_view f.value)) (field_flaws_parts known) c.args.fields.now c.loop-field.field-index
    c.field-item.result c.loop-field-test.true c.field-item.is (c.loop-field.invariant known tells) _ (c.in_err-check.ensures known tells))

pub check_fields-loop-field-preserved : goal.check_fields-loop-field-preserved
check_fields-loop-field-preserved t c known tells = nothing_more (λ xs. flaws_fields known (fields_view xs)) (λ f. flaws known (expr_view f.value)) (field_flaws_parts known) c.args.fields.now c.loop-field.field-index
    c.field-item.result c.loop-field-test.true c.field-item.is (c.loop-field.invariant known tells) (c.in_ok-check.ensures known tells)

pub check_fields-returns : goal.check_fields-returns
check_fields-returns t c known tells = nothing_at_all (λ xs. flaws_fields known (fields_view xs)) c.args.fields.now c.loop-field.field-index refl c.loop-field-test.false (c.loop-field.invariant known tells)

pub check_declarations-loop-declaration-init : goal.check_declarations-loop-declaration-init
check_declarations-loop-declaration-init t c known all tells told = refl

pub check_declarations-returns-in_err-check_declaration : goal.check_declarations-returns-in_err-check_declaration
check_declarations-returns-in_err-check_declaration t c known all tells told =
    let p = err_from_is_err_and c.from_residual.result c.from_residual.ensures.1 in
    rw (p.1, p.2) (ends_here (λ xs. flaws_declarations known all (declarations_view xs)) (λ d. flaws_seen known all (declaration_view d)) (flaws_parts known all) c.args.declarations.now c.loop-declaration.declaration-index
    c.declaration-item.result c.loop-declaration-test.true c.declaration-item.is (c.loop-declaration.invariant known all tells told) _ (c.in_err-check_declaration.ensures known all tells told))

pub check_declarations-loop-declaration-preserved : goal.check_declarations-loop-declaration-preserved
check_declarations-loop-declaration-preserved t c known all tells told = nothing_more (λ xs. flaws_declarations known all (declarations_view xs)) (λ d. flaws_seen known all (declaration_view d)) (flaws_parts known all) c.args.declarations.now c.loop-declaration.declaration-index
    c.declaration-item.result c.loop-declaration-test.true c.declaration-item.is (c.loop-declaration.invariant known all tells told) (c.in_ok-check_declaration.ensures known all tells told)

pub check_declarations-returns : goal.check_declarations-returns
check_declarations-returns t c known all tells told = nothing_at_all (λ xs. flaws_declarations known all (declarations_view xs)) c.args.declarations.now c.loop-declaration.declaration-index refl c.loop-declaration-test.false (c.loop-declaration.invariant known all tells told)

pub check-returns-in-Paren : goal.check-returns-in-Paren
check-returns-in-Paren t c known tells = finds_as c.check.result (flaws known (expr_view c.args.expr.now)) (flaws known (expr_view c.deref.result.now)) (search (rules, Exprs.the_lemmas)) (c.check.ensures known tells)

pub check-returns-in-Struct : goal.check-returns-in-Struct
check-returns-in-Struct t c known tells = finds_as c.check_fields.result (flaws known (expr_view c.args.expr.now)) (flaws_fields known (fields_view c.deref-in-Struct.result.now)) (search (rules, Exprs.the_lemmas)) (c.check_fields.ensures known tells)

pub check-returns-in-Wide-Marked : goal.check-returns-in-Wide-Marked
check-returns-in-Wide-Marked t c known tells = finds_as c.check-in-Wide-Marked.result (flaws known (expr_view c.args.expr.now)) (flaws known (expr_view c.deref-in-Wide-Marked.result.now)) (search (rules, Exprs.the_lemmas)) (c.check-in-Wide-Marked.ensures known tells)

pub check-returns-in-Wide-Shut : goal.check-returns-in-Wide-Shut
check-returns-in-Wide-Shut t c known tells = finds_as c.check-in-Wide-Shut.result (flaws known (expr_view c.args.expr.now)) (flaws known (expr_view c.deref-in-Wide-Shut.result.now)) (search (rules, Exprs.the_lemmas)) (c.check-in-Wide-Shut.ensures known tells)

pub check-returns-in_ok-table-in-Wide-Merged : goal.check-returns-in_ok-table-in-Wide-Merged
check-returns-in_ok-table-in-Wide-Merged t c known tells =
    let ds = declarations_view c.deref-in-Wide-Merged.result.now in
    finds_as c.check_declarations.result (flaws known (expr_view c.args.expr.now)) (flaws_declarations known ds (declarations_view c.deref-in-Wide-Merged-2.result.now)) (search (rules, Exprs.the_lemmas))
    (c.check_declarations.ensures known ds tells (c.in_ok-table-in-Wide-Merged.ensures known tells))

pub check-returns-in-And : goal.check-returns-in-And
check-returns-in-And t c known tells = finds_as c.check_each-in-And.result (flaws known (expr_view c.args.expr.now)) (flaws_each known (exprs_view c.deref-in-And.result.now)) (search (rules, Exprs.the_lemmas)) (c.check_each-in-And.ensures known tells)

pub check-returns-in_err-check_each-in-List : goal.check-returns-in_err-check_each-in-List
check-returns-in_err-check_each-in-List t c known tells =
    let front = exprs_view c.deref-in-List.result.now in
    let end = end_view c.in-List.end in
    let h = c.in_err-check_each-in-List.ensures known tells in
    let p = err_from_is_err_and c.from_residual.result c.from_residual.ensures.1 in
    let is : flaws known (expr_view c.args.expr.now) ≡ flaws_each known front ++ flaws_end known end = search (rules, Exprs.the_lemmas) in
    rw (p.1, p.2, is) (ends_left (flaws_each known front) (flaws_end known end) _ h)

pub check-returns-in_ok-check_each-in-List : goal.check-returns-in_ok-check_each-in-List
check-returns-in_ok-check_each-in-List t c known tells =
    let front = exprs_view c.deref-in-List.result.now in
    let end = end_view c.in-List.end in
    let is : flaws known (expr_view c.args.expr.now) ≡ flaws_each known front ++ flaws_end known end = search (rules, Exprs.the_lemmas) in
    finds_as c.check_end.result (flaws known (expr_view c.args.expr.now)) (flaws_end known end)
    (is ∙ none_left (flaws_each known front) (flaws_end known end) (c.in_ok-check_each-in-List.ensures known tells)) (c.check_end.ensures known tells)

pub check_end-returns-in-Each : goal.check_end-returns-in-Each
check_end-returns-in-Each t c known tells = finds_as c.check.result (flaws_end known (end_view c.args.end.now)) (flaws known (expr_view c.deref.result.now)) (search (rules, Exprs.the_lemmas)) (c.check.ensures known tells)

pub check_declaration-returns-in-Field : goal.check_declaration-returns-in-Field
check_declaration-returns-in-Field t c known all tells told = finds_as c.check.result (flaws_seen known all (declaration_view c.args.declaration.now)) (flaws known (expr_view c.in-Field.field.value)) (search (rules, Exprs.the_lemmas)) (c.check.ensures known tells)

pub check_declaration-returns-in-Embedded : goal.check_declaration-returns-in-Embedded
check_declaration-returns-in-Embedded t c known all tells told = finds_as c.check-in-Embedded.result (flaws_seen known all (declaration_view c.args.declaration.now)) (flaws known (expr_view c.in-Embedded.value)) (search (rules, Exprs.the_lemmas)) (c.check-in-Embedded.ensures known tells)

pub check_declaration-returns-in_err-check_chain-in-Conditional : goal.check_declaration-returns-in_err-check_chain-in-Conditional
check_declaration-returns-in_err-check_chain-in-Conditional t c known all tells told =
    let e = expr_view c.in-Conditional.value in
    let cs = map condition_view c.deref.result.now in
    let h = c.in_err-check_chain-in-Conditional.ensures known all told in
    let p = err_from_is_err_and c.from_residual.result c.from_residual.ensures.1 in
    let is = conditional_flaws known all c.args.declaration.now c.in-Conditional.at c.in-Conditional.conditions c.in-Conditional.value c.deref.result.now c.in-Conditional.is c.deref.ensures.value in
    rw (p.1, p.2, is) (ends_left (chain_flaws known all e [] cs) (flaws known e) _ h)

pub check_declaration-returns-in_ok-check_chain-in-Conditional : goal.check_declaration-returns-in_ok-check_chain-in-Conditional
check_declaration-returns-in_ok-check_chain-in-Conditional t c known all tells told =
    let e = expr_view c.in-Conditional.value in
    let cs = map condition_view c.deref.result.now in
    let is = conditional_flaws known all c.args.declaration.now c.in-Conditional.at c.in-Conditional.conditions c.in-Conditional.value c.deref.result.now c.in-Conditional.is c.deref.ensures.value in
    finds_as c.check-in-Conditional.result (flaws_seen known all (declaration_view c.args.declaration.now)) (flaws known e)
    (is ∙ none_left (chain_flaws known all e [] cs) (flaws known e) (c.in_ok-check_chain-in-Conditional.ensures known all told)) (c.check-in-Conditional.ensures known tells)
