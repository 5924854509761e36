use Rattle.std.proofs.Common.{refl, sym, ◌∙◌}
use Rattle.cs_grammar.specs.View.{expr_view, exprs_view}
use Rattle.cs_plain.proofs.Walks.{none_more, one_here, none_at_all}
use Rattle.cs_names.specs.Joined as Spec
use Rattle.cs_names.proofs.held.+holds.Goals as goal

pub some_holds-returns-then-holds_literal : goal.some_holds-returns-then-holds_literal
some_holds-returns-then-holds_literal t c =
    one_here (λ es. Spec.some_holds (exprs_view es)) (λ e. Spec.holds_literal (expr_view e)) (λ e es. refl) c.args.exprs.now c.loop-expr.expr-index c.loop-expr.invariant
    c.expr-item.result c.loop-expr-test.true c.expr-item.is (sym c.holds_literal.ensures ∙ c.if-holds_literal.true)

pub some_holds-loop-expr-preserved : goal.some_holds-loop-expr-preserved
some_holds-loop-expr-preserved t c =
    none_more (λ es. Spec.some_holds (exprs_view es)) (λ e. Spec.holds_literal (expr_view e)) (λ e es. refl) c.args.exprs.now c.loop-expr.expr-index c.loop-expr.invariant
    c.expr-item.result c.loop-expr-test.true c.expr-item.is (sym c.holds_literal.ensures ∙ c.if-holds_literal.false)

pub some_holds-returns : goal.some_holds-returns
some_holds-returns t c =
    none_at_all (λ es. Spec.some_holds (exprs_view es)) (λ e. Spec.holds_literal (expr_view e)) (λ e es. refl) c.args.exprs.now c.loop-expr.expr-index c.loop-expr.invariant
    refl c.loop-expr-test.false
