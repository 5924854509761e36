use Rattle.std.proofs.Common.{◌≡◌, ◌++◌, map, drop, string_bytes}
use Rattle.cs_flat.specs.View.{entry_of}
use Rattle.cs_validity_reasons.specs.CauseLists.{each_from, missing_told}
use Rattle.cs_validity_reasons.proofs.causes.maps.missing_causes.Given as goal

abbrev pub invariant-loop-place : goal.invariant-loop-place
invariant-loop-place l =
    let told = λ (k : _) (s : _). missing_told (map entry_of l.members) k (string_bytes s) in
    l.initial.found.items ++ each_from told 0 l.required ≡ l.found.items ++ each_from told l.place (drop l.place l.required)
