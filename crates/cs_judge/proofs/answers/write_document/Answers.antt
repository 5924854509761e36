use Rattle.std.proofs.Common.{◌≡◌}
use Rattle.std.proofs.lemmas.Result.{err_from_is_err_and}
use Rattle.cs_tool.specs.declared.fault.Fault.TheVariants.{WriteFailed}
use Rattle.cs_judge.specs.Explained.{asked_form}
use Rattle.cs_judge.proofs.ExplainedRuns.{text_answer, all_told}
use Rattle.cs_judge.proofs.answers.write_document.Goals as goal

pub returns-clause-done : goal.returns-clause-done
returns-clause-done g c =
    let answer = c.explain-answer.result in
    let told = c.explain-answer.ensures in
    let is = all_told (asked_form c.args.why) answer _ _ _ c.new-told.ensures.items c.deref.ensures.value told.told in
    let writes = rw c.form_of.ensures at c.in_ok-write_told.ensures in
    (answer, text_answer _ _ answer told.found told.refused, c.outcome_of.ensures, (writes is).all)

pub returns-in_err-write_told-clause-refused : goal.returns-in_err-write_told-clause-refused
returns-in_err-write_told-clause-refused g c =
    let answer = c.explain-answer.result in
    let told = c.explain-answer.ensures in
    let is = all_told (asked_form c.args.why) answer _ _ _ c.new-told.ensures.items c.deref.ensures.value told.told in
    let writes = rw c.form_of.ensures at c.in_err-write_told.ensures in
    let kind : c.in_err-write_told.field-0.0 ≡ WriteFailed = cc (writes is).kind in
    let p = err_from_is_err_and c.from_residual.result c.from_residual.ensures.1 in
    rw (p.1, p.2) (kind, answer, text_answer _ _ answer told.found told.refused, (writes is).front)
