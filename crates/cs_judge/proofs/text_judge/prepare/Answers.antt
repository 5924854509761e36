use Rattle.std.proofs.Common.{subst}
use Rattle.std.proofs.lemmas.Result.{err_from_is_err_and}
use Rattle.cs_tool.specs.CallRefusals.{ValidateRefusal}
use Rattle.cs_judge.proofs.text_judge.prepare.Goals as goal

pub returns-in_err-read_schema_text-in-Schema-clause-refused : goal.returns-in_err-read_schema_text-in-Schema-clause-refused
returns-in_err-read_schema_text-in-Schema-clause-refused c = λ text.
    let read = c.in_err-read_schema_text-in-Schema in
    let p = err_from_is_err_and c.from_residual-in_err-read_schema_text-in-Schema.result c.from_residual-in_err-read_schema_text-in-Schema.ensures.1 in
    rw (p.1, p.2, c.in-Schema.is) (subst (λ s. ValidateRefusal c.in-Schema.vocabulary s text read.field-0.0) c.deref-in-Schema.ensures.value (read.ensures.refused text))
