use Rattle.std.proofs.Common.{refl, sym, ◌∙◌}
use Rattle.cs_grammar.specs.View.{expr_view, trees_of}
use Rattle.cs_embeddings.specs.Checks.{bodies_view}
use Rattle.cs_embeddings.specs.Shut.{is_open, are_open}
use Rattle.cs_embeddings.proofs.Walks.{well_more, one_ill, all_well}
use Rattle.cs_embeddings.proofs.shut.all_open.Goals as goal

pub returns-then-not-is_open : goal.returns-then-not-is_open
returns-then-not-is_open c =
    one_ill (λ es. are_open (trees_of (bodies_view es))) (λ e. is_open (expr_view e.now)) (λ e es. refl) c.args.operands.now c.loop-operand.operand-index c.loop-operand.invariant
    c.operand-item.result c.loop-operand-test.true c.operand-item.is (sym c.is_open.ensures ∙ c.if-not-is_open.true)

pub loop-operand-preserved : goal.loop-operand-preserved
loop-operand-preserved c =
    well_more (λ es. are_open (trees_of (bodies_view es))) (λ e. is_open (expr_view e.now)) (λ e es. refl) c.args.operands.now c.loop-operand.operand-index c.loop-operand.invariant
    c.operand-item.result c.loop-operand-test.true c.operand-item.is (sym c.is_open.ensures ∙ c.if-not-is_open.false)

pub returns : goal.returns
returns c =
    all_well (λ es. are_open (trees_of (bodies_view es))) (λ e. is_open (expr_view e.now)) (λ e es. refl) c.args.operands.now c.loop-operand.operand-index c.loop-operand.invariant
    refl c.loop-operand-test.false
