use Rattle.std.proofs.Common.{◌≡◌, ◌-◌, ◌^◌, take}
use Rattle.std.specs.Prelude.{min, sum_by}
use Rattle.cs_validity_reasons.specs.Required.{names_required}
use Rattle.cs_validate.specs.Steps.{asked_of}
use Rattle.cs_validity_reasons.proofs.required.names_of_all.Given as goal

abbrev pub invariant-loop-rule : goal.invariant-loop-rule
invariant-loop-rule l = l.names ≡ min (sum_by (λ r. names_required (asked_of r)) (take l.rule-index l.rules)) (2 ^ 64 - 1)
