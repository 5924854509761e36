use Rattle.std.proofs.Common.{◌≡◌, ℕ, map, drop}
use Rattle.std.specs.List.{list_all}
use Rattle.cs_document.specs.Document.{Entry}
use Rattle.cs_flat.specs.View.{entry_of}
use Rattle.cs_rules.specs.Knowns.{verdict_inside, value_count}
use Rattle.cs_instance.specs.Steps.{ValuesBelow}
use Rattle.cs_instance.proofs.steps.every_value_holds.Given as goal

abbrev pub invariant-loop-key : goal.invariant-loop-key
invariant-loop-key l =
    let holds = λ (m : Entry ℕ). verdict_inside l.known m.1 l.part in record {
      same : list_all holds (map entry_of l.members) ≡ list_all holds (map entry_of (drop l._key-index l.members));
      below : ValuesBelow (value_count l.known) (map entry_of (drop l._key-index l.members));
    }
