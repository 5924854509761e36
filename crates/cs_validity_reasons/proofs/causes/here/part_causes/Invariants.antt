use Rattle.std.proofs.Common.{◌≡◌, ◌++◌, drop}
use Rattle.cs_table.specs.Judged.{verdicts}
use Rattle.cs_validity_reasons.specs.CauseLists.{each_from, part_told}
use Rattle.cs_validity_reasons.proofs.causes.here.part_causes.Given as goal

abbrev pub invariant-loop-place : goal.invariant-loop-place
invariant-loop-place l =
    let told = part_told (verdicts l.known.done.now) l.known.item in
    l.initial.found.items ++ each_from told 0 l.all_of ≡ l.found.items ++ each_from told l.place (drop l.place l.all_of)
