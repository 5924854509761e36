use Rattle.std.proofs.Common.{refl, sym, ◌∙◌}
use Rattle.cs_grammar.specs.View.{expr_view, exprs_view}
use Rattle.cs_embeddings.specs.Narrowed as Spec
use Rattle.cs_embeddings.specs.NarrowedTable.{base_has}
use Rattle.cs_embeddings.proofs.Walks.{well_more, one_ill, all_well}
use Rattle.cs_embeddings.proofs.narrowed.Base.+narrows.Goals as goal

pub each_narrows-returns-then-not-narrows : goal.each_narrows-returns-then-not-narrows
each_narrows-returns-then-not-narrows t c =
    one_ill (λ es. Spec.each_narrows (base_has c.args.self) (exprs_view es)) (λ e. Spec.narrows (base_has c.args.self) (expr_view e)) (λ e es. refl)
    c.args.exprs.now c.loop-expr.expr-index c.loop-expr.invariant c.expr-item.result c.loop-expr-test.true c.expr-item.is (sym c.narrows.ensures ∙ c.if-not-narrows.true)

pub each_narrows-loop-expr-preserved : goal.each_narrows-loop-expr-preserved
each_narrows-loop-expr-preserved t c =
    well_more (λ es. Spec.each_narrows (base_has c.args.self) (exprs_view es)) (λ e. Spec.narrows (base_has c.args.self) (expr_view e)) (λ e es. refl)
    c.args.exprs.now c.loop-expr.expr-index c.loop-expr.invariant c.expr-item.result c.loop-expr-test.true c.expr-item.is (sym c.narrows.ensures ∙ c.if-not-narrows.false)

pub each_narrows-returns : goal.each_narrows-returns
each_narrows-returns t c =
    all_well (λ es. Spec.each_narrows (base_has c.args.self) (exprs_view es)) (λ e. Spec.narrows (base_has c.args.self) (expr_view e)) (λ e es. refl)
    c.args.exprs.now c.loop-expr.expr-index c.loop-expr.invariant refl c.loop-expr-test.false
