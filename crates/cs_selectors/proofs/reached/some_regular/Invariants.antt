use Rattle.std.proofs.Common.{◌≡◌, map, drop}
use Rattle.std.specs.List.{list_any}
use Rattle.cs_selectors.specs.Reached.{is_regular}
use Rattle.cs_selectors.specs.Checks.{field_at}
use Rattle.cs_selectors.proofs.reached.some_regular.Given as goal

abbrev pub invariant-loop-field : goal.invariant-loop-field
invariant-loop-field l = list_any (λ f. is_regular f.mark) (map field_at l.fields) ≡ list_any (λ f. is_regular f.mark) (map field_at (drop l.field-index l.fields))
