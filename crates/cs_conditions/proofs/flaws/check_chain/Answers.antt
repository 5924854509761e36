use Rattle.std.proofs.Common.{take, map, ap, ◌∙◌, subst}
use Rattle.std.proofs.lemmas.Result.{err_from_is_err_and}
use Rattle.cs_grammar.specs.View.{expr_view, condition_view}
use Rattle.cs_conditions.specs.Asked as Spec
use Rattle.cs_conditions.specs.Checks.{EndsAt}
use Rattle.cs_conditions.specs.Faults.{condition_flaws}
use Rattle.cs_conditions.proofs.Chains.{chain_here}
use Rattle.cs_conditions.proofs.flaws.check_chain.Goals as goal

pub returns-in_err-check_condition : goal.returns-in_err-check_condition
returns-in_err-check_condition c known all told =
    let e = expr_view c.args.body.now in
    let cs = c.args.conditions.now in
    let place = c.loop-place.place in
    let this = c.index-conditions-place.result in
    let asked = c.of_label-asked.ensures ∙ told c.deref.result.now ∙ ap (λ s. Spec.asked known s all) c.deref.ensures in
    let here = subst (λ a. EndsAt c.in_err-check_condition.field-0.0 (condition_flaws a e (map condition_view (take place cs)) (condition_view this))) asked c.in_err-check_condition.ensures in
    let p = err_from_is_err_and c.from_residual.result c.from_residual.ensures.1 in
    rw (p.1, p.2) (chain_here known all e cs place this c.loop-place-test.true c.index-conditions-place.is (c.loop-place.invariant known all told) _ here)
