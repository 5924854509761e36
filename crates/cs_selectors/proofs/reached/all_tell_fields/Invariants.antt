use Rattle.std.proofs.Common.{◌≡◌, map, drop}
use Rattle.std.specs.List.{list_all}
use Rattle.cs_selectors.specs.Checks.{tree_at}
use Rattle.cs_selectors.specs.Reached.{tells_fields}
use Rattle.cs_selectors.proofs.reached.all_tell_fields.Given as goal

abbrev pub invariant-loop-value : goal.invariant-loop-value
invariant-loop-value l = list_all tells_fields (map tree_at l.values) ≡ list_all tells_fields (map tree_at (drop l.value-index l.values))
