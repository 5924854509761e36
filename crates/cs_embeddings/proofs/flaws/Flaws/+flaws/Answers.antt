use Rattle.std.proofs.Common.{rules, ◌≡◌, ◌++◌, refl, ◌∙◌}
use Rattle.std.proofs.lemmas.Result.{err_from_is_err_and}
use Rattle.cs_grammar.specs.declared.ast.Expr as Exprs
use Rattle.cs_grammar.specs.View.{expr_view, exprs_view, fields_view, declaration_view, declarations_view, end_view}
use Rattle.cs_embeddings.specs.Checks.{flaw_view, flaws_seen}
use Rattle.cs_embeddings.specs.Flaws.{flaws, flaws_here, flaws_each, flaws_fields, flaws_declarations, flaws_end}
use Rattle.cs_embeddings.proofs.Firsts.{found_left, none_left, first_here, none_more, all_none, field_parts, declaration_parts, finds_as}
use Rattle.cs_embeddings.proofs.flaws.Flaws.+flaws.Goals as goal

pub check-returns-in-Paren : goal.check-returns-in-Paren
check-returns-in-Paren t c ds tells = finds_as flaw_view c.check.result (flaws ds (expr_view c.args.expr.now)) (flaws ds (expr_view c.deref.result.now)) (search (rules, Exprs.the_lemmas)) (c.check.ensures ds tells)

pub check-returns-in-Struct : goal.check-returns-in-Struct
check-returns-in-Struct t c ds tells = finds_as flaw_view c.check_fields.result (flaws ds (expr_view c.args.expr.now)) (flaws_fields ds (fields_view c.deref-in-Struct.result.now)) (search (rules, Exprs.the_lemmas)) (c.check_fields.ensures ds tells)

pub check-returns-in-Wide-Marked : goal.check-returns-in-Wide-Marked
check-returns-in-Wide-Marked t c ds tells = finds_as flaw_view c.check-in-Wide-Marked.result (flaws ds (expr_view c.args.expr.now)) (flaws ds (expr_view c.deref-in-Wide-Marked.result.now)) (search (rules, Exprs.the_lemmas)) (c.check-in-Wide-Marked.ensures ds tells)

pub check-returns-in-Wide-Shut : goal.check-returns-in-Wide-Shut
check-returns-in-Wide-Shut t c ds tells = finds_as flaw_view c.check-in-Wide-Shut.result (flaws ds (expr_view c.args.expr.now)) (flaws ds (expr_view c.deref-in-Wide-Shut.result.now)) (search (rules, Exprs.the_lemmas)) (c.check-in-Wide-Shut.ensures ds tells)

pub check-returns-in-Wide-Merged : goal.check-returns-in-Wide-Merged
check-returns-in-Wide-Merged t c ds tells = finds_as flaw_view c.check_declarations.result (flaws ds (expr_view c.args.expr.now)) (flaws_declarations ds (declarations_view c.deref-in-Wide-Merged.result.now)) (search (rules, Exprs.the_lemmas)) (c.check_declarations.ensures ds tells)

pub check-returns-in-And : goal.check-returns-in-And
check-returns-in-And t c ds tells = finds_as flaw_view c.check_each-in-And.result (flaws ds (expr_view c.args.expr.now)) (flaws_each ds (exprs_view c.deref-in-And.result.now)) (search (rules, Exprs.the_lemmas)) (c.check_each-in-And.ensures ds tells)

pub check-returns-in_err-check_each-in-List : goal.check-returns-in_err-check_each-in-List
check-returns-in_err-check_each-in-List t c ds tells =
    let front = exprs_view c.deref-in-List.result.now in
    let end = end_view c.in-List.end in
    let h = c.in_err-check_each-in-List.ensures ds tells in
    let p = err_from_is_err_and c.from_residual.result c.from_residual.ensures.1 in
    let is : flaws ds (expr_view c.args.expr.now) ≡ flaws_each ds front ++ flaws_end ds end = search (rules, Exprs.the_lemmas) in
    rw (p.1, p.2, is) (found_left (flaws_each ds front) (flaws_end ds end) _ h)

pub check-returns-in_ok-check_each-in-List : goal.check-returns-in_ok-check_each-in-List
check-returns-in_ok-check_each-in-List t c ds tells =
    let front = exprs_view c.deref-in-List.result.now in
    let end = end_view c.in-List.end in
    let is : flaws ds (expr_view c.args.expr.now) ≡ flaws_each ds front ++ flaws_end ds end = search (rules, Exprs.the_lemmas) in
    finds_as flaw_view c.check_end.result (flaws ds (expr_view c.args.expr.now)) (flaws_end ds end)
    (is ∙ none_left (flaws_each ds front) (flaws_end ds end) (c.in_ok-check_each-in-List.ensures ds tells)) (c.check_end.ensures ds tells)

pub check_end-returns-in-Each : goal.check_end-returns-in-Each
check_end-returns-in-Each t c ds tells = finds_as flaw_view c.check.result (flaws_end ds (end_view c.args.end.now)) (flaws ds (expr_view c.deref.result.now)) (search (rules, Exprs.the_lemmas)) (c.check.ensures ds tells)

pub check_declaration-returns-in-Field : goal.check_declaration-returns-in-Field
check_declaration-returns-in-Field t c ds tells = finds_as flaw_view c.check.result (flaws_seen ds (declaration_view c.args.declaration.now)) (flaws ds (expr_view c.in-Field.field.value)) (search (rules, Exprs.the_lemmas)) (c.check.ensures ds tells)

pub check_declaration-returns-in_err-check_embedded-in-Embedded : goal.check_declaration-returns-in_err-check_embedded-in-Embedded
check_declaration-returns-in_err-check_embedded-in-Embedded t c ds tells =
    let e = expr_view c.in-Embedded.value in
    let h = c.in_err-check_embedded-in-Embedded.ensures ds tells in
    let p = err_from_is_err_and c.from_residual.result c.from_residual.ensures.1 in
    let is : flaws_seen ds (declaration_view c.args.declaration.now) ≡ flaws_here ds c.in-Embedded.at e ++ flaws ds e = search (rules, Exprs.the_lemmas) in
    rw (p.1, p.2, is) (found_left (flaws_here ds c.in-Embedded.at e) (flaws ds e) _ h)

pub check_declaration-returns-in_ok-check_embedded-in-Embedded : goal.check_declaration-returns-in_ok-check_embedded-in-Embedded
check_declaration-returns-in_ok-check_embedded-in-Embedded t c ds tells =
    let e = expr_view c.in-Embedded.value in
    let is : flaws_seen ds (declaration_view c.args.declaration.now) ≡ flaws_here ds c.in-Embedded.at e ++ flaws ds e = search (rules, Exprs.the_lemmas) in
    finds_as flaw_view c.check-in-Embedded.result (flaws_seen ds (declaration_view c.args.declaration.now)) (flaws ds e)
    (is ∙ none_left (flaws_here ds c.in-Embedded.at e) (flaws ds e) (c.in_ok-check_embedded-in-Embedded.ensures ds tells)) (c.check-in-Embedded.ensures ds tells)

pub check_declarations-loop-declaration-init : goal.check_declarations-loop-declaration-init
check_declarations-loop-declaration-init t c ds tells = refl

pub check_declarations-returns-in_err-check_declaration : goal.check_declarations-returns-in_err-check_declaration
check_declarations-returns-in_err-check_declaration t c ds tells =
    let h = c.in_err-check_declaration.ensures ds tells in
    let p = err_from_is_err_and c.from_residual.result c.from_residual.ensures.1 in
    rw (p.1, p.2) (first_here (λ xs. flaws_declarations ds (declarations_view xs)) (λ d. flaws_seen ds (declaration_view d)) (declaration_parts ds) c.args.declarations.now c.loop-declaration.declaration-index
    c.declaration-item.result c.loop-declaration-test.true c.declaration-item.is (c.loop-declaration.invariant ds tells) _ h)

pub check_declarations-loop-declaration-preserved : goal.check_declarations-loop-declaration-preserved
check_declarations-loop-declaration-preserved t c ds tells =
    none_more (λ xs. flaws_declarations ds (declarations_view xs)) (λ d. flaws_seen ds (declaration_view d)) (declaration_parts ds) c.args.declarations.now c.loop-declaration.declaration-index
    c.declaration-item.result c.loop-declaration-test.true c.declaration-item.is (c.loop-declaration.invariant ds tells) (c.in_ok-check_declaration.ensures ds tells)

pub check_declarations-returns : goal.check_declarations-returns
check_declarations-returns t c ds tells = all_none (λ xs. flaws_declarations ds (declarations_view xs)) c.args.declarations.now c.loop-declaration.declaration-index refl c.loop-declaration-test.false (c.loop-declaration.invariant ds tells)

pub check_each-loop-expr-init : goal.check_each-loop-expr-init
check_each-loop-expr-init t c ds tells = refl

pub check_each-returns-in_err-check : goal.check_each-returns-in_err-check
check_each-returns-in_err-check t c ds tells =
    let h = c.in_err-check.ensures ds tells in
    let p = err_from_is_err_and c.from_residual.result c.from_residual.ensures.1 in
    rw (p.1, p.2) (first_here (λ xs. flaws_each ds (exprs_view xs)) (λ e. flaws ds (expr_view e)) (λ e es. refl) c.args.exprs.now c.loop-expr.expr-index
    c.expr-item.result c.loop-expr-test.true c.expr-item.is (c.loop-expr.invariant ds tells) _ h)

pub check_each-loop-expr-preserved : goal.check_each-loop-expr-preserved
check_each-loop-expr-preserved t c ds tells =
    none_more (λ xs. flaws_each ds (exprs_view xs)) (λ e. flaws ds (expr_view e)) (λ e es. refl) c.args.exprs.now c.loop-expr.expr-index
    c.expr-item.result c.loop-expr-test.true c.expr-item.is (c.loop-expr.invariant ds tells) (c.in_ok-check.ensures ds tells)

pub check_each-returns : goal.check_each-returns
check_each-returns t c ds tells = all_none (λ xs. flaws_each ds (exprs_view xs)) c.args.exprs.now c.loop-expr.expr-index refl c.loop-expr-test.false (c.loop-expr.invariant ds tells)

pub check_fields-loop-field-init : goal.check_fields-loop-field-init
check_fields-loop-field-init t c ds tells = refl

pub check_fields-returns-in_err-check : goal.check_fields-returns-in_err-check
check_fields-returns-in_err-check t c ds tells =
    let h = c.in_err-check.ensures ds tells in
    let p = err_from_is_err_and c.from_residual.result c.from_residual.ensures.1 in
    rw (p.1, p.2) (first_here (λ xs. flaws_fields ds (fields_view xs)) (λ f. flaws ds (expr_view f.value)) (field_parts ds) c.args.fields.now c.loop-field.field-index
    c.field-item.result c.loop-field-test.true c.field-item.is (c.loop-field.invariant ds tells) _ h)

pub check_fields-loop-field-preserved : goal.check_fields-loop-field-preserved
check_fields-loop-field-preserved t c ds tells =
    none_more (λ xs. flaws_fields ds (fields_view xs)) (λ f. flaws ds (expr_view f.value)) (field_parts ds) c.args.fields.now c.loop-field.field-index
    c.field-item.result c.loop-field-test.true c.field-item.is (c.loop-field.invariant ds tells) (c.in_ok-check.ensures ds tells)

pub check_fields-returns : goal.check_fields-returns
check_fields-returns t c ds tells = all_none (λ xs. flaws_fields ds (fields_view xs)) c.args.fields.now c.loop-field.field-index refl c.loop-field-test.false (c.loop-field.invariant ds tells)
