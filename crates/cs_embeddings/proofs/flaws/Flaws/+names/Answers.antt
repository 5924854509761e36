use Rattle.std.proofs.Common.{map, refl}
use Rattle.std.proofs.lemmas.Result.{err_from_is_err_and}
use Rattle.cs_grammar.specs.View.{expr_view, exprs_view}
use Rattle.cs_embeddings.specs.Flaws.{unknown, unknown_in, unknown_each}
use Rattle.cs_embeddings.proofs.Firsts.{first_here, none_more, all_none, name_parts}
use Rattle.cs_embeddings.proofs.flaws.Flaws.+names.Goals as goal

pub check_names_of-loop-expr-init : goal.check_names_of-loop-expr-init
check_names_of-loop-expr-init t c ds tells = refl

pub check_names_of-returns-in_err-check_names : goal.check_names_of-returns-in_err-check_names
check_names_of-returns-in_err-check_names t c ds tells =
    let h = c.in_err-check_names.ensures ds tells in
    let p = err_from_is_err_and c.from_residual.result c.from_residual.ensures.1 in
    rw (p.1, p.2) (first_here (λ es. map unknown (unknown_each ds (exprs_view es))) (λ e. map unknown (unknown_in ds (expr_view e))) (name_parts ds) c.args.exprs.now c.loop-expr.expr-index
    c.expr-item.result c.loop-expr-test.true c.expr-item.is (c.loop-expr.invariant ds tells) _ h)

pub check_names_of-loop-expr-preserved : goal.check_names_of-loop-expr-preserved
check_names_of-loop-expr-preserved t c ds tells =
    none_more (λ es. map unknown (unknown_each ds (exprs_view es))) (λ e. map unknown (unknown_in ds (expr_view e))) (name_parts ds) c.args.exprs.now c.loop-expr.expr-index
    c.expr-item.result c.loop-expr-test.true c.expr-item.is (c.loop-expr.invariant ds tells) (c.in_ok-check_names.ensures ds tells)

pub check_names_of-returns : goal.check_names_of-returns
check_names_of-returns t c ds tells = all_none (λ es. map unknown (unknown_each ds (exprs_view es))) c.args.exprs.now c.loop-expr.expr-index refl c.loop-expr-test.false (c.loop-expr.invariant ds tells)
