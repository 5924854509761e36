use Rattle.std.proofs.Common.{◌≡◌, ℕ, Some, map, slice_get, ◌≤◌}
use Rattle.cs_document.specs.Document.{Entry}
use Rattle.cs_flat.specs.View.{entry_of}
use Rattle.cs_validity_reasons.proofs.naming.find_key.Given as goal

-- the value is under none of the keys before
abbrev pub invariant-loop-member : goal.invariant-loop-member
invariant-loop-member l = (j : ℕ) (m : Entry ℕ) → slice_get (map entry_of l.members) j ≡ Some m → m.1 ≡ l.value → l.member-index ≤ j
