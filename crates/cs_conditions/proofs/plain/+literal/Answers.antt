use Rattle.std.proofs.Common.{refl, sym, ◌∙◌}
use Rattle.cs_grammar.specs.View.{expr_view, exprs_view}
use Rattle.cs_conditions.specs.Asked as Spec
use Rattle.cs_conditions.proofs.Walks.{none_more, one_here, none_at_all}
use Rattle.cs_conditions.proofs.plain.+literal.Goals as goal

pub some_has_literal-returns-then-has_literal : goal.some_has_literal-returns-then-has_literal
some_has_literal-returns-then-has_literal t c =
    one_here (λ es. Spec.some_has_literal (exprs_view es)) (λ e. Spec.has_literal (expr_view e)) (λ e es. refl) c.args.exprs.now c.loop-expr.expr-index c.loop-expr.invariant
    c.expr-item.result c.loop-expr-test.true c.expr-item.is (sym c.has_literal.ensures ∙ c.if-has_literal.true)

pub some_has_literal-loop-expr-preserved : goal.some_has_literal-loop-expr-preserved
some_has_literal-loop-expr-preserved t c =
    none_more (λ es. Spec.some_has_literal (exprs_view es)) (λ e. Spec.has_literal (expr_view e)) (λ e es. refl) c.args.exprs.now c.loop-expr.expr-index c.loop-expr.invariant
    c.expr-item.result c.loop-expr-test.true c.expr-item.is (sym c.has_literal.ensures ∙ c.if-has_literal.false)

pub some_has_literal-returns : goal.some_has_literal-returns
some_has_literal-returns t c =
    none_at_all (λ es. Spec.some_has_literal (exprs_view es)) (λ e. Spec.has_literal (expr_view e)) (λ e es. refl) c.args.exprs.now c.loop-expr.expr-index c.loop-expr.invariant
    refl c.loop-expr-test.false
