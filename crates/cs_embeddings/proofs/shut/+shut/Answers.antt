use Rattle.std.proofs.Common.{refl, sym, ◌∙◌}
use Rattle.cs_grammar.specs.View.{expr_view, exprs_view}
use Rattle.cs_embeddings.specs.Shut.{is_shut, some_shut}
use Rattle.cs_embeddings.proofs.Some.{none_more, one_here, none_at_all}
use Rattle.cs_embeddings.proofs.shut.+shut.Goals as goal

pub some_shut-returns-then-is_shut : goal.some_shut-returns-then-is_shut
some_shut-returns-then-is_shut t c =
    one_here (λ es. some_shut c.args.deep (exprs_view es)) (λ e. is_shut c.args.deep (expr_view e)) (λ e es. refl) c.args.exprs.now c.loop-expr.expr-index c.loop-expr.invariant
    c.expr-item.result c.loop-expr-test.true c.expr-item.is (sym c.is_shut.ensures ∙ c.if-is_shut.true)

pub some_shut-loop-expr-preserved : goal.some_shut-loop-expr-preserved
some_shut-loop-expr-preserved t c =
    none_more (λ es. some_shut c.args.deep (exprs_view es)) (λ e. is_shut c.args.deep (expr_view e)) (λ e es. refl) c.args.exprs.now c.loop-expr.expr-index c.loop-expr.invariant
    c.expr-item.result c.loop-expr-test.true c.expr-item.is (sym c.is_shut.ensures ∙ c.if-is_shut.false)

pub some_shut-returns : goal.some_shut-returns
some_shut-returns t c =
    none_at_all (λ es. some_shut c.args.deep (exprs_view es)) (λ e. is_shut c.args.deep (expr_view e)) (λ e es. refl) c.args.exprs.now c.loop-expr.expr-index c.loop-expr.invariant
    refl c.loop-expr-test.false
