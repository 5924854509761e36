use Rattle.std.proofs.Common.{◌≡◌, ℕ, true, List, map, string_bytes}
use Rattle.std.specs.List.{list_any}
use Rattle.std.specs.Str.{bytes_eq}
use Rattle.cs_validate.proofs.steps.take_name.Given as goal

abbrev pub invariant-loop-name : goal.invariant-loop-name
invariant-loop-name l = record {
  can_next : (goal.iterator-loop-name).can_next l.names;
  is_finite : (goal.iterator-loop-name).is_finite l.names;
  left : (k : List ℕ) → list_any (bytes_eq k) (map string_bytes l.names) ≡ true → list_any (bytes_eq k) (map string_bytes l.initial.names) ≡ true;
}
