use Rattle.std.proofs.Common.{◌≡◌, ◌++◌, drop, slice_index}
use Rattle.cs_table.specs.Judged.{verdicts}
use Rattle.cs_validity_reasons.specs.CauseLists.{each_from, rest_told}
use Rattle.cs_validity_reasons.proofs.causes.lists.rest_causes.Given as goal

abbrev pub invariant-loop-place : goal.invariant-loop-place
invariant-loop-place l =
    let told = rest_told (verdicts l.known.done.now) (slice_index l.known.children.now l.part) in
    l.initial.found.items ++ each_from told l.front (drop l.front l.children) ≡ l.found.items ++ each_from told l.place (drop l.place l.children)
