use Rattle.std.proofs.Common.{◌≡◌, ◌<◌, ℕ, drop}
use Rattle.std.specs.List.{AllByRecursion as Each}
use Rattle.cs_rules.specs.Knowns.{verdict_inside, value_count, place_count}
use Rattle.cs_instance.specs.Constraint as constraint
use Rattle.cs_instance.specs.Steps.{ending_of}
use Rattle.cs_instance.proofs.steps.elements_hold.Given as goal

abbrev pub invariant-loop-part : goal.invariant-loop-part
invariant-loop-part l =
    let inside = λ (y p : ℕ). verdict_inside l.known y p in record {
      same : constraint.elements_hold inside l.front (ending_of l.end) l.children ≡ constraint.elements_hold inside (drop l.part-index l.front) (ending_of l.end) l.rest;
      children : Each (λ y. y < value_count l.known) l.rest;
      below : Each (λ q. q < place_count l.known) (drop l.part-index l.front);
    }
