-- How large a table may be (own rule).
use Rattle.std.specs.Prelude.{ℕ}

-- how many pairs of an item and a rule a table may have
abbrev pub most_pairs : ℕ
most_pairs = 67108864
