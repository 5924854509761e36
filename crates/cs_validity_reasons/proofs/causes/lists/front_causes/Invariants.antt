use Rattle.std.proofs.Common.{◌≡◌, ◌++◌, ◌<◌, map, zip, drop, slice_index}
use Rattle.std.specs.List.{AllByRecursion as Each}
use Rattle.cs_rules.specs.Knowns.{value_count, place_count}
use Rattle.cs_table.specs.Judged.{verdicts}
use Rattle.cs_validity_reasons.specs.CauseLists.{each_from, front_told}
use Rattle.cs_validate.specs.Steps.{places_from}
use Rattle.cs_validity_reasons.proofs.causes.lists.front_causes.Given as goal

abbrev pub invariant-loop-place : goal.invariant-loop-place
invariant-loop-place l =
    let told = front_told (verdicts l.known.done.now) in
    let rules = slice_index l.known.children.now in record {
      children : Each (λ y. y < value_count l.known) l.rest;
      below : Each (λ p. p < place_count l.known) (places_from l.part (drop l.place l.prefix));
      told : l.initial.found.items ++ each_from told 0 (zip (map rules (places_from l.first l.prefix)) l.children)
          ≡ l.found.items ++ each_from told l.place (zip (map rules (places_from l.part (drop l.place l.prefix))) l.rest);
    }
