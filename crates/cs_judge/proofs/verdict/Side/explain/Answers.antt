use Rattle.std.proofs.lemmas.Result.{err_from_is_err_and}
use Rattle.cs_judge.proofs.BySides.{no_instance, no_validity}
use Rattle.cs_judge.proofs.verdict.Side.explain.Goals as goal

pub returns-in_err-reasons-in-Root : goal.returns-in_err-reasons-in-Root
returns-in_err-reasons-in-Root c =
    let e = c.in_err-reasons-in-Root in
    let p = err_from_is_err_and c.from_residual.result c.from_residual.ensures.1 in
    rw (p.1, p.2, c.in-Root.is) (record { found = tt; refused = no_instance c.in-Root.rules _ e.field-0.0 e.ensures.known e.ensures.many })

pub returns-in_ok-reasons-in-Root : goal.returns-in_ok-reasons-in-Root
returns-in_ok-reasons-in-Root c =
    let judged = c.in_ok-reasons-in-Root.ensures in
    rw c.in-Root.is (record { found = record { one_meaning = judged.one_meaning; answer = judged.answer; within = judged.within }; refused = tt })

pub returns-in_err-explanation-in-Schema : goal.returns-in_err-explanation-in-Schema
returns-in_err-explanation-in-Schema c =
    let e = c.in_err-explanation-in-Schema in
    let p = err_from_is_err_and c.from_residual-in_err-explanation-in-Schema.result c.from_residual-in_err-explanation-in-Schema.ensures.1 in
    rw (p.1, p.2, c.in-Schema.is) (record { found = tt; refused = no_validity c.in-Schema.rules _ e.field-0.0 e.ensures.refused })

pub returns-in_ok-explanation-in-Schema : goal.returns-in_ok-explanation-in-Schema
returns-in_ok-explanation-in-Schema c =
    let judged = c.in_ok-explanation-in-Schema.ensures in
    rw c.in-Schema.is (record { found = record { one_meaning = judged.one_meaning; answer = judged.answer; within = judged.within }; refused = tt })
