use Rattle.std.proofs.Common.{◌≡◌, ◌<◌, ℕ, map, string_bytes}
use Rattle.std.specs.List.{list_all, AllByRecursion as Each}
use Rattle.cs_document.specs.Document.{Entry, under}
use Rattle.cs_flat.specs.View.{entry_of}
use Rattle.cs_rules.specs.Knowns.{verdict_inside, place_count}
use Rattle.cs_profile.specs.Numbered.{numbered, names_in}
use Rattle.cs_profile.specs.Validity.{if_there}
use Rattle.cs_validate.proofs.steps.properties_hold.Given as goal

abbrev pub invariant-loop-name : goal.invariant-loop-name
invariant-loop-name l =
    let holds = λ (p : Entry ℕ). if_there (λ y. verdict_inside l.known y p.1) (under p.0 (map entry_of l.members)) in record {
      same : list_all holds (numbered l.first (names_in l.properties.entries)) ≡ list_all holds (numbered l.place (map string_bytes l.name-iterator));
      below : Each (λ (p : Entry ℕ). p.1 < place_count l.known) (numbered l.place (map string_bytes l.name-iterator));
    }
