use Rattle.std.proofs.Common.{ap}
use Rattle.std.proofs.lemmas.Result.{err_from_is_err_and}
use Rattle.cs_tool.specs.Conversions.{of_validate}
use Rattle.cs_tool.proofs.numbering.number_schema.Goals as goal

pub returns-in_err-schema_rules-clause-memory : goal.returns-in_err-schema_rules-clause-memory
returns-in_err-schema_rules-clause-memory c =
    let p = err_from_is_err_and c.from_residual.result c.from_residual.ensures.1 in
    rw (p.1, p.2) (ap of_validate c.in_err-schema_rules.ensures.memory)
