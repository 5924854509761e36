use Rattle.std.proofs.Common.{rules, ◌≡◌, refl, sym, ap, ◌∙◌}
use Rattle.cs_grammar.specs.declared.ast.Expr as Exprs
use Rattle.cs_grammar.specs.View.{expr_view, exprs_view}
use Rattle.cs_conditions.specs.Kinds.{all_kinds, no_kind, kinds, kinds_of_each, kinds_of_any, meet, join}
use Rattle.cs_conditions.proofs.Walks.{carried_more, carried}
use Rattle.cs_conditions.proofs.kinds.KindTable.+kinds.Goals as goal

pub of_value-returns-in-Reference : goal.of_value-returns-in-Reference
of_value-returns-in-Reference t c known tells =
    let is : kinds known (expr_view c.args.expr.now) ≡ known c.deref-in-Reference.result.now = search (rules, Exprs.the_lemmas) in
    c.of_name.ensures known tells ∙ sym is

pub of_value-returns-in-And : goal.of_value-returns-in-And
of_value-returns-in-And t c known tells =
    let is : kinds known (expr_view c.args.expr.now) ≡ kinds_of_each known all_kinds (exprs_view c.deref-in-And.result.now) = search (rules, Exprs.the_lemmas) in
    c.of_each.ensures known tells ∙ sym is

pub of_value-returns-in-Or : goal.of_value-returns-in-Or
of_value-returns-in-Or t c known tells =
    let is : kinds known (expr_view c.args.expr.now) ≡ kinds_of_any known no_kind (exprs_view c.deref-in-Or.result.now) = search (rules, Exprs.the_lemmas) in
    c.of_any.ensures known tells ∙ sym is

pub of_each-loop-operand-preserved : goal.of_each-loop-operand-preserved
of_each-loop-operand-preserved t c known tells =
    let xs = c.args.operands.now in
    carried_more (λ k es. kinds_of_each known k (exprs_view es)) (λ k e. meet k (kinds known (expr_view e))) (λ k e es. refl) xs c.loop-operand.operand-index c.loop-operand.kinds
    (kinds_of_each known all_kinds (exprs_view xs)) (c.loop-operand.invariant known tells) c.operand-item.result c.meet-kinds.result c.loop-operand-test.true c.operand-item.is
    (c.meet-kinds.ensures ∙ ap (meet c.loop-operand.kinds) (c.of_value.ensures known tells))

pub of_each-returns : goal.of_each-returns
of_each-returns t c known tells =
    let xs = c.args.operands.now in
    sym (carried (λ k es. kinds_of_each known k (exprs_view es)) (λ k e. meet k (kinds known (expr_view e))) (λ k e es. refl) xs c.loop-operand.operand-index c.loop-operand.kinds
    (kinds_of_each known all_kinds (exprs_view xs)) (c.loop-operand.invariant known tells) c.loop-operand-test.false)

pub of_any-loop-operand-preserved : goal.of_any-loop-operand-preserved
of_any-loop-operand-preserved t c known tells =
    let xs = c.args.operands.now in
    carried_more (λ k es. kinds_of_any known k (exprs_view es)) (λ k e. join k (kinds known (expr_view e))) (λ k e es. refl) xs c.loop-operand.operand-index c.loop-operand.kinds
    (kinds_of_any known no_kind (exprs_view xs)) (c.loop-operand.invariant known tells) c.operand-item.result c.join-kinds.result c.loop-operand-test.true c.operand-item.is
    (c.join-kinds.ensures ∙ ap (join c.loop-operand.kinds) (c.of_value.ensures known tells))

pub of_any-returns : goal.of_any-returns
of_any-returns t c known tells =
    let xs = c.args.operands.now in
    sym (carried (λ k es. kinds_of_any known k (exprs_view es)) (λ k e. join k (kinds known (expr_view e))) (λ k e es. refl) xs c.loop-operand.operand-index c.loop-operand.kinds
    (kinds_of_any known no_kind (exprs_view xs)) (c.loop-operand.invariant known tells) c.loop-operand-test.false)
