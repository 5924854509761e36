use Rattle.std.proofs.Common.{true, [], ◌∷◌, ◌∙◌}
use Rattle.std.proofs.lemmas.Result.{err_from_is_err_and}
use Rattle.cs_grammar.specs.View.{name_view}
use Rattle.cs_names.specs.Flaws as Spec
use Rattle.cs_names.specs.Scopes.{name_scope}
use Rattle.cs_names.proofs.Found.{finds_as, ends_left}
use Rattle.cs_names.proofs.Tables.{inside_of}
use Rattle.cs_plain.proofs.Walks.{none_left}
use Rattle.cs_names.proofs.resolved.Naming.check_top.Goals as goal

pub returns-in_err-check_bound : goal.returns-in_err-check_bound
returns-in_err-check_bound c all ts every own tells told bound =
    let i = c.args.self.now.file in
    let n = name_view c.args.name.now in
    let p = err_from_is_err_and c.from_residual.result c.from_residual.ensures.1 in
    rw (p.1, p.2) (ends_left (Spec.bound_flaws ts i every own n) (Spec.flaws ts i true (name_scope n own ∷ every ∷ []) n.value) _ (c.in_err-check_bound.ensures ts i every own told bound))

pub returns : goal.returns
returns c all ts every own tells told bound =
    let i = c.args.self.now.file in
    let n = name_view c.args.name.now in
    let ss = name_scope n own ∷ every ∷ [] in
    let around = inside_of c.of_name.result (name_scope n own) (c.whole.result ∷ []) c.deref.result.now (every ∷ []) (c.deref.ensures.value ∙ c.in_ok-scopes.ensures) (c.of_name.ensures own bound)
    (c.whole.ensures every told, tt) in
    finds_as c.check.result (Spec.name_flaws ts i every own n) (Spec.flaws ts i true ss n.value)
    (none_left (Spec.bound_flaws ts i every own n) (Spec.flaws ts i true ss n.value) (c.in_ok-check_bound.ensures ts i every own told bound))
    (c.check.ensures all ts ss tells around)
