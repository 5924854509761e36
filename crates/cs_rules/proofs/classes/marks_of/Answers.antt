use Rattle.cs_rules.proofs.Marked.{next_told}
use Rattle.cs_rules.proofs.classes.marks_of.Goals as goal

pub loop-rule-preserved : goal.loop-rule-preserved
loop-rule-preserved g c =
    next_told g.R.Asks.step c.args.rules.now c.loop-rule.rule-index c.loop-rule.marks c.mark.new.marks c.rule-item.result c.loop-rule-test.true c.rule-item.is c.in_ok-mark.ensures.more c.loop-rule.invariant c.in_ok-mark.ensures.told
