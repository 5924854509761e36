use Rattle.std.proofs.Common.{◌≡◌, ℕ, map, drop}
use Rattle.std.specs.List.{list_all}
use Rattle.cs_flat.specs.View.{entry_of}
use Rattle.cs_rules.specs.Knowns.{verdict_inside, place_count}
use Rattle.cs_package.specs.Expression.{Declaration}
use Rattle.cs_instance.specs.Constraint as constraint
use Rattle.cs_instance.specs.Steps.{field_of, PlacesBelow}
use Rattle.cs_instance.proofs.steps.declarations_hold.Given as goal

abbrev pub invariant-loop-field : goal.invariant-loop-field
invariant-loop-field l =
    let holds = λ (d : Declaration ℕ). constraint.declaration_holds (λ y p. verdict_inside l.known y p) d (map entry_of l.members) in record {
      same : list_all holds (map field_of l.fields) ≡ list_all holds (map field_of (drop l.field-index l.fields));
      below : PlacesBelow (place_count l.known) (map field_of (drop l.field-index l.fields));
    }
