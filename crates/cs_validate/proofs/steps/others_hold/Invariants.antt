use Rattle.std.proofs.Common.{◌≡◌, ℕ, true, List, map, drop, string_bytes}
use Rattle.std.specs.List.{list_all, list_any}
use Rattle.std.specs.Str.{bytes_eq}
use Rattle.cs_flat.specs.View.{entry_of}
use Rattle.cs_rules.specs.Knowns.{verdict_inside, value_count}
use Rattle.cs_profile.specs.Numbered.{names_in}
use Rattle.cs_validate.specs.Asked.{asks_other, EntriesBelow}
use Rattle.cs_validate.proofs.steps.others_hold.Given as goal

abbrev pub invariant-loop-member : goal.invariant-loop-member
invariant-loop-member l =
    let holds = asks_other (verdict_inside l.known) (names_in l.properties.entries) l.part in record {
      same : list_all holds (map entry_of l.members) ≡ list_all holds (map entry_of (drop l.member-index l.members));
      below : EntriesBelow (value_count l.known) (map entry_of (drop l.member-index l.members));
      left : (k : List ℕ) → list_any (bytes_eq k) (map string_bytes l.names) ≡ true → list_any (bytes_eq k) (names_in l.properties.entries) ≡ true;
    }
