use Rattle.std.proofs.lemmas.Result.{err_from_is_err_and}
use Rattle.cs_guard.proofs.guarded.guard.Goals as goal

pub invariant_of-result : goal.invariant_of-result
invariant_of-result c = c.in_ok-ranks.ensures.ranks

pub returns-in_err-ranks-clause-refused : goal.returns-in_err-ranks-clause-refused
returns-in_err-ranks-clause-refused c =
    let p = err_from_is_err_and c.from_residual.result c.from_residual.ensures.1 in
    rw (p.1, p.2) c.in_err-ranks.ensures.refused

pub returns-in_err-ranks-clause-only : goal.returns-in_err-ranks-clause-only
returns-in_err-ranks-clause-only c =
    let p = err_from_is_err_and c.from_residual.result c.from_residual.ensures.1 in
    rw (p.1, p.2) c.in_err-ranks.ensures.only

pub returns-clause-guarded : goal.returns-clause-guarded
returns-clause-guarded c = c.in_ok-ranks.ensures.ranks.guarded
