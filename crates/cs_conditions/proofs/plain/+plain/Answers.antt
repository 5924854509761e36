use Rattle.std.proofs.Common.{refl, sym, ◌∙◌}
use Rattle.cs_grammar.specs.View.{expr_view, exprs_view}
use Rattle.cs_conditions.specs.Asked as Spec
use Rattle.cs_conditions.proofs.Walks.{well_more, one_ill, all_well}
use Rattle.cs_conditions.proofs.plain.+plain.Goals as goal

pub are_plain-returns-then-not-is_plain : goal.are_plain-returns-then-not-is_plain
are_plain-returns-then-not-is_plain t c =
    one_ill (λ es. Spec.are_plain (exprs_view es)) (λ e. Spec.is_plain (expr_view e)) (λ e es. refl) c.args.exprs.now c.loop-expr.expr-index c.loop-expr.invariant
    c.expr-item.result c.loop-expr-test.true c.expr-item.is (sym c.is_plain.ensures ∙ c.if-not-is_plain.true)

pub are_plain-loop-expr-preserved : goal.are_plain-loop-expr-preserved
are_plain-loop-expr-preserved t c =
    well_more (λ es. Spec.are_plain (exprs_view es)) (λ e. Spec.is_plain (expr_view e)) (λ e es. refl) c.args.exprs.now c.loop-expr.expr-index c.loop-expr.invariant
    c.expr-item.result c.loop-expr-test.true c.expr-item.is (sym c.is_plain.ensures ∙ c.if-not-is_plain.false)

pub are_plain-returns : goal.are_plain-returns
are_plain-returns t c =
    all_well (λ es. Spec.are_plain (exprs_view es)) (λ e. Spec.is_plain (expr_view e)) (λ e es. refl) c.args.exprs.now c.loop-expr.expr-index c.loop-expr.invariant
    refl c.loop-expr-test.false
