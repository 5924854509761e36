use Rattle.std.proofs.Common.{◌≡◌, ◌<◌, ℕ, List, true, drop}
use Rattle.std.specs.List.{AllByRecursion as Each}
use Rattle.cs_rules.specs.Knowns.{verdict_inside, value_count, place_count}
use Rattle.cs_profile.specs.Validity as validity
use Rattle.cs_validate.specs.Steps.{places_from}
use Rattle.cs_validate.proofs.steps.front_holds.Given as goal

abbrev pub invariant-loop-schema : goal.invariant-loop-schema
invariant-loop-schema l =
    let inside = λ (y p : ℕ). verdict_inside l.known y p in
    let front = λ (ps ys : List ℕ). validity.front_holds (λ (h : ℕ). true) inside ps ys in record {
      same : front (places_from l.first l.prefix) l.children ≡ front (places_from l.place (drop l._schema-index l.prefix)) l.rest;
      children : Each (λ y. y < value_count l.known) l.rest;
      below : Each (λ p. p < place_count l.known) (places_from l.place (drop l._schema-index l.prefix));
    }
