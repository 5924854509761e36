use Rattle.std.proofs.Common.{sym, ap, ◌∙◌}
use Rattle.std.proofs.lemmas.Result.{err_from_is_err_and}
use Rattle.cs_resolve.specs.Earlier.{no_refinements}
use Rattle.cs_resolve.specs.Scopes.{key_places}
use Rattle.cs_resolve.specs.Steps.{faults_in}
use Rattle.cs_resolve.proofs.NameFaults.{refused-same}
use Rattle.cs_resolve.proofs.shapes.check_key.Goals as goal

pub returns-in_err-name_shape-in-Every : goal.returns-in_err-name_shape-in-Every
returns-in_err-name_shape-in-Every c ns scopes around =
    let p = err_from_is_err_and c.from_residual.result c.from_residual.ensures.1 in
    rw (p.1, p.2) (refused-same c.in_err-name_shape-in-Every.field-0.0 _ _ (ap (λ m. faults_in c.args.file ns (key_places scopes m)) (sym c.in-Every.is)) (c.in_err-name_shape-in-Every.ensures no_refinements ns scopes around))

pub returns-in_ok-name_shape-in-Every : goal.returns-in_ok-name_shape-in-Every
returns-in_ok-name_shape-in-Every c ns scopes around = (tt, ap (λ m. faults_in c.args.file ns (key_places scopes m)) c.in-Every.is ∙ (c.in_ok-name_shape-in-Every.ensures no_refinements ns scopes around).1)
