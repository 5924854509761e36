use Rattle.std.proofs.Common.{◌≡◌, ◌++◌, ◌<◌, ◌≤◌, ◌-◌, ℕ, map, string_bytes, slice_index}
use Rattle.std.specs.List.{AllByRecursion as Each}
use Rattle.cs_document.specs.Document.{Entry}
use Rattle.cs_document.specs.Inside.{map_entry}
use Rattle.cs_flat.specs.View.{entry_of}
use Rattle.cs_rules.specs.Knowns.{place_count}
use Rattle.cs_table.specs.Judged.{verdicts}
use Rattle.cs_profile.specs.Numbered.{numbered, names_in}
use Rattle.cs_validity_reasons.specs.CauseLists.{each_from, named_told}
use Rattle.cs_validity_reasons.proofs.causes.maps.property_causes.Given as goal

abbrev pub invariant-loop-name : goal.invariant-loop-name
invariant-loop-name l =
    let told = named_told (verdicts l.known.done.now) (map entry_of l.members) in
    let rules = map_entry (slice_index l.known.children.now) in record {
      from : l.first ≤ l.part;
      below : Each (λ (p : Entry ℕ). p.1 < place_count l.known) (numbered l.part (map string_bytes l.name-iterator));
      told : l.initial.found.items ++ each_from told 0 (map rules (numbered l.first (names_in l.properties.entries)))
          ≡ l.found.items ++ each_from told (l.part - l.first) (map rules (numbered l.part (map string_bytes l.name-iterator)));
    }
