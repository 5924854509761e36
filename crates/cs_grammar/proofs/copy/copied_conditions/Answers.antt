use Rattle.cs_grammar.specs.View.{condition_view}
use Rattle.cs_grammar.proofs.Copies.{copied_more, all_copied}
use Rattle.cs_grammar.proofs.copy.copied_conditions.Goals as goal

pub loop-condition-preserved : goal.loop-condition-preserved
loop-condition-preserved c =
    copied_more condition_view c.args.conditions.now c.loop-condition.condition-index c.condition-item.result c.loop-condition-test.true c.condition-item.is _ _ _ c.in_ok-push.ensures.items
    c.loop-condition.invariant c.in_ok-copied_condition.ensures

pub returns : goal.returns
returns c = all_copied condition_view c.args.conditions.now c.loop-condition.condition-index c.loop-condition-test.false _ c.loop-condition.invariant
