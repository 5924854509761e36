use Rattle.std.proofs.Common.{◌≡◌, ◌++◌, map, drop, slice_index}
use Rattle.cs_flat.specs.View.{entry_of}
use Rattle.cs_rules.specs.Knowns.{value_count}
use Rattle.cs_table.specs.Judged.{verdicts}
use Rattle.cs_profile.specs.Numbered.{names_in}
use Rattle.cs_validate.specs.Asked.{EntriesBelow}
use Rattle.cs_validity_reasons.specs.CauseLists.{each_from, other_told}
use Rattle.cs_validity_reasons.proofs.causes.maps.additional_causes.Given as goal

abbrev pub invariant-loop-place : goal.invariant-loop-place
invariant-loop-place l =
    let told = λ (k : _) (m : _). other_told (verdicts l.known.done.now) (names_in l.properties.entries) (slice_index l.known.children.now l.part) k (entry_of m) in record {
      below : EntriesBelow (value_count l.known) (map entry_of (drop l.place l.members));
      told : l.initial.found.items ++ each_from told 0 l.members ≡ l.found.items ++ each_from told l.place (drop l.place l.members);
    }
