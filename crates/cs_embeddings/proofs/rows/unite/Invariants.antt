use Rattle.std.proofs.Common.{◌≡◌, ℕ, ◌<◌, ◌≤◌, ◌||◌, false, length, get_or}
use Rattle.cs_embeddings.proofs.rows.unite.Given as goal

abbrev pub invariant-loop-place : goal.invariant-loop-place
invariant-loop-place l =
    (l.place ≤ length l.row.items)
    × ((most : ℕ) → length l.initial.row.items ≤ most → length l.other ≤ most → length l.row.items ≤ most)
    × ((i : ℕ) → i < l.place → get_or l.row.items i false ≡ (get_or l.initial.row.items i false || get_or l.other i false))
    × ((i : ℕ) → l.place ≤ i → get_or l.row.items i false ≡ get_or l.initial.row.items i false)
