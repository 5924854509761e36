use Rattle.std.proofs.Common.{◌≡◌, ℕ, Some, Vec, Global, length}
use Rattle.std.specs.Prelude.{slice_get}
use Rattle.cs_rules.specs.Rows.{verdict_at, AreOpen}
use Rattle.cs_rules.proofs.rows.open_by_kind.Given as goal

abbrev pub invariant-loop-place : goal.invariant-loop-place
invariant-loop-place l = record {
  count : length l.left.items ≡ l.place;
  each : (p : ℕ) (v : Vec ℕ Global) → slice_get l.left.items p ≡ Some v → AreOpen (length l.known) (verdict_at l.known p) v.items;
}
