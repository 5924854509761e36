use Rattle.std.proofs.Common.{◌≡◌, map, take}
use Rattle.cs_plain.specs.Bodies.{body_view}
use Rattle.cs_selectors.specs.Checks.{tree_at}
use Rattle.cs_selectors.proofs.reached.bodies_values.Given as goal

abbrev pub invariant-loop-body : goal.invariant-loop-body
invariant-loop-body l = map tree_at l.values.items ≡ map (λ b. (body_view b).value) (take l.body-index l.bodies)
