use Rattle.std.proofs.Common.{◌≡◌, map, drop}
use Rattle.cs_grammar.specs.View.{selector_view}
use Rattle.cs_plain.specs.Bodies.{body_view}
use Rattle.cs_selectors.specs.Checks.{tree_at}
use Rattle.cs_selectors.specs.Reached.{lack_in, values_in, texts}
use Rattle.cs_selectors.proofs.reached.reached.Given as goal

abbrev pub invariant-loop-label : goal.invariant-loop-label
invariant-loop-label l = (lack_in (map (λ b. b.value) (map body_view l.bodies)) (texts (map selector_view l.labels)) ≡ lack_in (map tree_at l.values.items) (texts (map selector_view (drop l.label-index l.labels))))
    × (values_in (map (λ b. b.value) (map body_view l.bodies)) (texts (map selector_view l.labels)) ≡ values_in (map tree_at l.values.items) (texts (map selector_view (drop l.label-index l.labels))))
