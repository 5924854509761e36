use Rattle.std.proofs.Common.{◌≡◌, map, take}
use Rattle.cs_selectors.specs.Checks.{field_at, tree_at}
use Rattle.cs_selectors.specs.Reached.{declarations_in}
use Rattle.cs_selectors.proofs.reached.declarations_in.Given as goal

abbrev pub invariant-loop-value : goal.invariant-loop-value
invariant-loop-value l = map field_at l.found.items ≡ declarations_in l.label (map tree_at (take l.value-index l.values))
