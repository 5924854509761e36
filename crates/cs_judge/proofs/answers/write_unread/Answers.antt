use Rattle.std.proofs.Common.{◌≡◌, refl}
use Rattle.std.proofs.lemmas.Result.{err_from_is_err_and}
use Rattle.cs_tool.specs.declared.fault.Fault.TheVariants.{WriteFailed}
use Rattle.cs_judge.proofs.answers.write_unread.Goals as goal

pub returns-clause-done : goal.returns-clause-done
returns-clause-done g c =
    let writes = rw c.form_of.ensures at c.in_ok-write_told.ensures in
    (refl, (writes tt).all)

pub returns-in_err-write_told-clause-refused : goal.returns-in_err-write_told-clause-refused
returns-in_err-write_told-clause-refused g c =
    let writes = rw c.form_of.ensures at c.in_err-write_told.ensures in
    let kind : c.in_err-write_told.field-0.0 ≡ WriteFailed = cc (writes tt).kind in
    let p = err_from_is_err_and c.from_residual.result c.from_residual.ensures.1 in
    rw (p.1, p.2) (kind, (writes tt).front)
