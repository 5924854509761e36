use Rattle.std.proofs.Common.{false, ◌<◌, ◌∙◌, subst}
use Rattle.cs_table.proofs.Steps.{step}
use Rattle.cs_table.proofs.filling.judge_all.Goals as goal

pub loop-rule-preserved : goal.loop-rule-preserved
loop-rule-preserved g c =
    let judge = c.args.judge.now in
    let n = g.J.Judge.rule_count judge in
    let l : c.loop-rule.rule < n = subst (λ k. c.loop-rule.rule < k) (c.rules-rule-end.ensures ∙ c.requires.before.rules) c.loop-rule-test.true in
    let done = c.give.ensures in
    step c.args.item (g.J.Judge.item_count judge) n (g.J.Judge.answer judge) (g.met.J.Judge.looks_back judge) (λ r. r) n (λ r. false) c.loop-rule.rule c.loop-rule.done c.give.new.self c.judge-verdict.result c.loop-rule.invariant l (λ j m. m) (λ j k m o. m) done.size done.given c.judge-verdict.ensures done.others
