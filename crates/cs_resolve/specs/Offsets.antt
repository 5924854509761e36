-- The order in which faults are told (own rule): by file, and then by offset.
use Rattle.std.specs.Prelude.{◌≡◌, ℕ, ◌<◌, ◌⊎◌, List, AllPairs}
use Rattle.cs_resolve.specs.Scopes.{NameFault, unknown, of_field}

-- a place in files is the number of a file and an offset in it; one stands before another in an earlier file, or in the same file at a lower offset
abbrev pub StandsBefore : ℕ × ℕ → ℕ × ℕ → Type 0
StandsBefore p q = (p.0 < q.0) ⊎ ((p.0 ≡ q.0) × (p.1 < q.1))

-- each place stands before all that follow it
abbrev pub AreInOrder : List (ℕ × ℕ) → Type 0
AreInOrder ps = AllPairs StandsBefore ps

abbrev pub offset : NameFault → ℕ
offset (unknown o) = o
offset (of_field o) = o

-- where a fault of a name stands
abbrev pub place : ℕ × NameFault → ℕ × ℕ
place f = (f.0, offset f.1)
