use Rattle.std.proofs.Common.{◌≡◌, ℕ, ◌+◌, ◌-◌, ◌<◌, ◌≤◌, false, length, get_or}
use Rattle.cs_embeddings.proofs.rows.set.Given as goal

abbrev pub invariant-loop-row : goal.invariant-loop-row
invariant-loop-row l =
    ((most : ℕ) → length l.initial.row.items ≤ most → l.number < most → length l.row.items ≤ most)
    × ((i : ℕ) → get_or l.row.items i false ≡ get_or l.initial.row.items i false)

abbrev pub decreases-loop-row : goal.decreases-loop-row
decreases-loop-row l = l.number + 1 - length l.row.items
