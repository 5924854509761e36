use Rattle.std.proofs.Common.{false, refl, sym, ◌∙◌}
use Rattle.cs_grammar.specs.View.{expr_view, trees_of}
use Rattle.cs_embeddings.specs.Checks.{bodies_view}
use Rattle.cs_embeddings.specs.Shut.{is_shut, some_shut}
use Rattle.cs_embeddings.proofs.Some.{none_more, one_here, none_at_all}
use Rattle.cs_embeddings.proofs.shut.any_shut.Goals as goal

pub returns-then-is_shut : goal.returns-then-is_shut
returns-then-is_shut c =
    one_here (λ es. some_shut false (trees_of (bodies_view es))) (λ e. is_shut false (expr_view e.now)) (λ e es. refl) c.args.operands.now c.loop-operand.operand-index c.loop-operand.invariant
    c.operand-item.result c.loop-operand-test.true c.operand-item.is (sym c.is_shut.ensures ∙ c.if-is_shut.true)

pub loop-operand-preserved : goal.loop-operand-preserved
loop-operand-preserved c =
    none_more (λ es. some_shut false (trees_of (bodies_view es))) (λ e. is_shut false (expr_view e.now)) (λ e es. refl) c.args.operands.now c.loop-operand.operand-index c.loop-operand.invariant
    c.operand-item.result c.loop-operand-test.true c.operand-item.is (sym c.is_shut.ensures ∙ c.if-is_shut.false)

pub returns : goal.returns
returns c =
    none_at_all (λ es. some_shut false (trees_of (bodies_view es))) (λ e. is_shut false (expr_view e.now)) (λ e es. refl) c.args.operands.now c.loop-operand.operand-index c.loop-operand.invariant
    refl c.loop-operand-test.false
