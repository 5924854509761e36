use Rattle.cs_judge.specs.Explained.{asked_form}
use Rattle.cs_judge.proofs.ExplainedRuns.{first_report}
use Rattle.cs_judge.proofs.text_judge.TextJudge.explain.Goals as goal

pub returns-clause-told : goal.returns-clause-told
returns-clause-told c =
    let told = rw c.form_of.ensures at c.in_ok-tell.ensures.told in
    told (first_report (asked_form c.args.why) _ _ _ _ c.new-report.ensures.items c.deref.ensures.value c.in_ok-truth.ensures.verdict.told)
