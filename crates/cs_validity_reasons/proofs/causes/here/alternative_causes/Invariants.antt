use Rattle.std.proofs.Common.{◌≡◌, ◌++◌, drop}
use Rattle.cs_table.specs.Judged.{verdicts}
use Rattle.cs_validity_reasons.specs.CauseLists.{each_from, alternative_told}
use Rattle.cs_validity_reasons.proofs.causes.here.alternative_causes.Given as goal

abbrev pub invariant-loop-place : goal.invariant-loop-place
invariant-loop-place l =
    let told = alternative_told (verdicts l.known.done.now) l.known.item in
    l.initial.found.items ++ each_from told 0 l.any_of ≡ l.found.items ++ each_from told l.place (drop l.place l.any_of)
