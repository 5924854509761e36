use Rattle.std.specs.Prelude.{◌≡◌, take}
use Rattle.cs_reasons.specs.Costs.{cost_below, first_least, kept}
use Rattle.cs_reasons.proofs.choosing.closest.Given as goal

abbrev pub invariant-loop-cause : goal.invariant-loop-cause
invariant-loop-cause g l = l.best ≡ first_least (λ c. cost_below (kept l.costs) (g.C.Cause.leads_to c)) (take l.cause-index l.near)
