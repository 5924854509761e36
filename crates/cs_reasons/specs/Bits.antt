-- How a set of pairs of an item and a rule is kept: as bits, eight to a byte, from the lowest bit on.
use Rattle.std.specs.Prelude.{ℕ, ◌+◌, ◌*◌, ◌/◌, ◌%◌, ◌==◌, Bool, false, cond, List, get_or, nat_lt}
use Rattle.std.specs.Int.{bit_at}
use Rattle.cs_table.specs.Judged.{AllVerdicts}

-- the bit at a place, which is 0 past the bytes
abbrev pub is_set : List ℕ → ℕ → Bool
is_set bytes k = bit_at (get_or bytes (k / 8) 0) (k % 8) == 1

-- the pairs whose bit is set
abbrev pub set_of : List ℕ → ℕ → ℕ → AllVerdicts
set_of bytes items rules i r = cond (nat_lt i items) (cond (nat_lt r rules) (is_set bytes (i * rules + r)) false) false
