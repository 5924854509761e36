use Rattle.std.proofs.Common.{◌≡◌, map, take}
use Rattle.cs_selectors.specs.Checks.{tree_at, field_at}
use Rattle.cs_selectors.proofs.reached.values_of.Given as goal

abbrev pub invariant-loop-field : goal.invariant-loop-field
invariant-loop-field l = map tree_at l.values.items ≡ map (λ f. (field_at f).value) (take l.field-index l.fields)
