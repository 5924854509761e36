use Rattle.cs_listing.proofs.Foretold.{next_by_kind}
use Rattle.cs_listing.proofs.all_by_kind.Goals as goal

pub loop-rule-preserved : goal.loop-rule-preserved
loop-rule-preserved c =
    next_by_kind c.args.rules.now c.loop-rule.rule-index c.loop-rule.known.items c.deref.result.now c.push.new.self.items c.rule-item.result c.by_kind-verdicts.result
    c.loop-rule-test.true c.rule-item.is c.deref.ensures.value c.in_ok-push.ensures.items c.loop-rule.invariant c.by_kind-verdicts.ensures
