use Rattle.std.proofs.Common.{subst}
use Rattle.std.proofs.lemmas.Result.{err_from_is_err_and}
use Rattle.cs_package.specs.Environment.{Names}
use Rattle.cs_tool.proofs.Declared.{one_environment}
use Rattle.cs_tool.proofs.exports.export_in.Goals as goal

pub returns-in_err-guarded-clause-only : goal.returns-in_err-guarded-clause-only
returns-in_err-guarded-clause-only c = λ ready.
    let p = err_from_is_err_and c.from_residual.result c.from_residual.ensures.1 in
    rw (p.1, p.2) (c.in_err-guarded.ensures.only ready.0 ready.2.accepted)

pub returns-clause-only : goal.returns-clause-only
returns-clause-only c = λ ready.
    let same = one_environment ready.2.accepted c.in_ok-guarded.ensures.accepted in
    c.exported.ensures.only ready.1 (subst (λ F. Names F c.args.root.now ready.1) same ready.2.named)
