use Rattle.std.proofs.Common.{refl, sym, ◌∙◌}
use Rattle.cs_grammar.specs.View.{expr_view, exprs_view, declaration_view, declarations_view}
use Rattle.cs_conditions.specs.Checks.{seen_declares}
use Rattle.cs_conditions.specs.Faults.{declares, some_declares, declarations_declare}
use Rattle.cs_conditions.proofs.Parts.{declares_parts}
use Rattle.cs_conditions.proofs.Walks.{none_more, one_here, none_at_all}
use Rattle.cs_conditions.proofs.declares.+declares.Goals as goal

pub some_declares-returns-then-declares : goal.some_declares-returns-then-declares
some_declares-returns-then-declares t c =
    one_here (λ es. some_declares c.args.with_default c.args.label.now (exprs_view es)) (λ e. declares c.args.with_default c.args.label.now (expr_view e)) (λ e es. refl)
    c.args.exprs.now c.loop-expr.expr-index c.loop-expr.invariant c.expr-item.result c.loop-expr-test.true c.expr-item.is (sym c.declares.ensures ∙ c.if-declares.true)

pub some_declares-loop-expr-preserved : goal.some_declares-loop-expr-preserved
some_declares-loop-expr-preserved t c =
    none_more (λ es. some_declares c.args.with_default c.args.label.now (exprs_view es)) (λ e. declares c.args.with_default c.args.label.now (expr_view e)) (λ e es. refl)
    c.args.exprs.now c.loop-expr.expr-index c.loop-expr.invariant c.expr-item.result c.loop-expr-test.true c.expr-item.is (sym c.declares.ensures ∙ c.if-declares.false)

pub some_declares-returns : goal.some_declares-returns
some_declares-returns t c =
    none_at_all (λ es. some_declares c.args.with_default c.args.label.now (exprs_view es)) (λ e. declares c.args.with_default c.args.label.now (expr_view e)) (λ e es. refl)
    c.args.exprs.now c.loop-expr.expr-index c.loop-expr.invariant refl c.loop-expr-test.false

pub declarations_declare-returns-then-declaration_declares : goal.declarations_declare-returns-then-declaration_declares
declarations_declare-returns-then-declaration_declares t c =
    one_here (λ xs. declarations_declare c.args.with_default c.args.label.now (declarations_view xs)) (λ d. seen_declares c.args.with_default c.args.label.now (declaration_view d))
    (declares_parts c.args.with_default c.args.label.now) c.args.declarations.now c.loop-declaration.declaration-index c.loop-declaration.invariant
    c.declaration-item.result c.loop-declaration-test.true c.declaration-item.is (sym c.declaration_declares.ensures ∙ c.if-declaration_declares.true)

pub declarations_declare-loop-declaration-preserved : goal.declarations_declare-loop-declaration-preserved
declarations_declare-loop-declaration-preserved t c =
    none_more (λ xs. declarations_declare c.args.with_default c.args.label.now (declarations_view xs)) (λ d. seen_declares c.args.with_default c.args.label.now (declaration_view d))
    (declares_parts c.args.with_default c.args.label.now) c.args.declarations.now c.loop-declaration.declaration-index c.loop-declaration.invariant
    c.declaration-item.result c.loop-declaration-test.true c.declaration-item.is (sym c.declaration_declares.ensures ∙ c.if-declaration_declares.false)

pub declarations_declare-returns : goal.declarations_declare-returns
declarations_declare-returns t c =
    none_at_all (λ xs. declarations_declare c.args.with_default c.args.label.now (declarations_view xs)) (λ d. seen_declares c.args.with_default c.args.label.now (declaration_view d))
    (declares_parts c.args.with_default c.args.label.now) c.args.declarations.now c.loop-declaration.declaration-index c.loop-declaration.invariant refl c.loop-declaration-test.false
