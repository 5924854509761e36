use Rattle.std.proofs.Common.{◌≡◌, map, drop}
use Rattle.std.specs.List.{list_all}
use Rattle.cs_selectors.specs.Checks.{field_at}
use Rattle.cs_selectors.specs.Reached.{is_small}
use Rattle.cs_selectors.proofs.reached.all_small.Given as goal

abbrev pub invariant-loop-field : goal.invariant-loop-field
invariant-loop-field l = list_all is_small (map field_at l.fields) ≡ list_all is_small (map field_at (drop l.field-index l.fields))
