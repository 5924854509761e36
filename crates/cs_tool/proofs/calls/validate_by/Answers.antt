use Rattle.std.proofs.Common.{refl}
use Rattle.std.proofs.lemmas.Result.{err_from_is_err_and}
use Rattle.cs_tool.proofs.Numbered.{numbered_schema}
use Rattle.cs_tool.proofs.calls.validate_by.Goals as goal

pub returns-in_err-schema : goal.returns-in_err-schema
returns-in_err-schema c =
    let schema = c.in_err-schema.ensures in
    let p = err_from_is_err_and c.from_residual.result c.from_residual.ensures.1 in
    rw (p.1, p.2) (record {
      found = tt;
      refused = schema.refused c.args.doc.now;
      only = λ ready. let x = ready.input in schema.only (record { document = x.schema; read = x.read_schema; profile = x.profile });
    })

pub returns-in_err-rules : goal.returns-in_err-rules
returns-in_err-rules c =
    let p = err_from_is_err_and c.from_residual-in_err-rules.result c.from_residual-in_err-rules.ensures.1 in
    rw (p.1, p.2, c.in_err-rules.ensures.memory) (record { found = tt; refused = tt; only = λ ready. refl })

pub returns : goal.returns
returns c =
    let v = c.args.vocabulary in
    let s = c.args.schema.now in
    let is = numbered_schema c.in_ok-schema.ensures.found c.in_ok-rules.ensures.found in
    let judged = c.judge_schema.ensures in
    record { found = judged.found v s is; refused = judged.refused v s is; only = judged.only v s is }
