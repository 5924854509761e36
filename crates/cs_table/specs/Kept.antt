-- How a table keeps its verdicts: as bits, eight to a byte, from the lowest bit on, and each item from a byte of its own
-- on.
use Rattle.std.specs.Prelude.{ℕ, ◌+◌, ◌*◌, ◌/◌, ◌%◌, ◌==◌, Bool, List, get_or, map}
use Rattle.std.specs.Int.{bit_at}
use Rattle.std.specs.List.{range_with_len}

-- how many bytes an item has
abbrev pub width_of : ℕ → ℕ
width_of rules = (rules + 7) / 8

-- the bit of a pair, which is 0 past the bytes
abbrev pub bit_of : List ℕ → ℕ → ℕ → ℕ → ℕ
bit_of bytes width i r = bit_at (get_or bytes (i * width + r / 8) 0) (r % 8)

-- the verdict of a pair
abbrev pub is_yes : List ℕ → ℕ → ℕ → ℕ → Bool
is_yes bytes width i r = bit_of bytes width i r == 1

-- the verdicts of all pairs, item by item
abbrev pub kept : List ℕ → ℕ → ℕ → ℕ → List Bool
kept bytes width items rules = map (λ k. is_yes bytes width (k / rules) (k % rules)) (range_with_len 0 (items * rules))
