use Rattle.std.proofs.Common.{◌+◌, drop, sym, ap, ◌∙◌}
use Rattle.cs_grammar.specs.View.{exprs_view}
use Rattle.cs_embeddings.specs.Held as Spec
use Rattle.cs_embeddings.proofs.Walks.{at_place, drop_all}
use Rattle.cs_embeddings.proofs.held.+holds.Goals as goal

pub hold-returns-in-Some : goal.hold-returns-in-Some
hold-returns-in-Some t c =
    let xs = c.args.exprs.now in
    let i = c.loop-expr.expr-index in
    let x = c.expr-item.result in
    sym (c.loop-expr.invariant ∙ ap (λ es. Spec.hold (exprs_view es)) (at_place xs i x c.loop-expr-test.true c.expr-item.is)
    ∙ ap (λ o. Spec.or_else o (Spec.hold (exprs_view (drop (i + 1) xs)))) (sym c.in-Some.ensures))

pub hold-loop-expr-preserved : goal.hold-loop-expr-preserved
hold-loop-expr-preserved t c =
    let xs = c.args.exprs.now in
    let i = c.loop-expr.expr-index in
    let x = c.expr-item.result in
    c.loop-expr.invariant ∙ ap (λ es. Spec.hold (exprs_view es)) (at_place xs i x c.loop-expr-test.true c.expr-item.is)
    ∙ ap (λ o. Spec.or_else o (Spec.hold (exprs_view (drop (i + 1) xs)))) (sym c.in_default.ensures)

pub hold-returns : goal.hold-returns
hold-returns t c =
    let xs = c.args.exprs.now in
    sym (c.loop-expr.invariant ∙ ap (λ es. Spec.hold (exprs_view es)) (drop_all xs c.loop-expr.expr-index c.loop-expr-test.false))
