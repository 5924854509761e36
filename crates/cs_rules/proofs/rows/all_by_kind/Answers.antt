use Rattle.cs_rules.proofs.Decided.{next_foretold}
use Rattle.cs_rules.proofs.rows.all_by_kind.Goals as goal

pub loop-rule-preserved : goal.loop-rule-preserved
loop-rule-preserved g c =
    next_foretold g.R.Asks.step c.args.rules.now c.loop-rule.rule-index c.loop-rule.known.items c.deref.result.now c.push.new.self.items c.rule-item.result c.by_kind-verdicts.result
    c.loop-rule-test.true c.rule-item.is c.deref.ensures.value c.in_ok-push.ensures.items c.loop-rule.invariant c.by_kind-verdicts.ensures
