use Rattle.std.proofs.Common.{subst}
use Rattle.cs_judge.specs.Explained.{asked_form}
use Rattle.cs_judge.specs.Prepared.{AreNumbersOf}
use Rattle.cs_judge.proofs.ByRules.{by_root, by_schema, by_both}
use Rattle.cs_judge.proofs.verdict.verdict.Goals as goal

pub returns-in-Root : goal.returns-in-Root
returns-in-Root c = λ R text is read. record {
  of = by_root text _ read c.verdict.result R _ (subst (AreNumbersOf R) c.in-Root.is is) c.verdict.ensures.verdict;
  told = c.verdict.ensures.says;
}

pub returns-in-Schema : goal.returns-in-Schema
returns-in-Schema c = λ R text is read. record {
  of = by_schema text _ read c.verdict-in-Schema.result R _ (subst (AreNumbersOf R) c.in-Schema.is is) c.verdict-in-Schema.ensures.verdict;
  told = c.verdict-in-Schema.ensures.says;
}

pub returns-in-Both : goal.returns-in-Both
returns-in-Both c = λ R text is read. by_both text _ read c.both_verdicts.result (asked_form c.args.why) _ _ R _ _ (subst (AreNumbersOf R) c.in-Both.is is) c.both_verdicts.ensures
