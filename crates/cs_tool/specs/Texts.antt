-- Which sources are texts (own rules).
use Rattle.std.specs.Prelude.{ℕ, ◌≤◌, List, length, sum_by, IsUtf8}
use Rattle.std.specs.List.{AllByRecursion}

-- the bytes that the sources of a call may have together, and those that they have
abbrev pub most_bytes : ℕ
most_bytes = 1048576

abbrev pub bytes_of : List (List ℕ) → ℕ
bytes_of sources = sum_by length sources

-- the sources are texts, and no longer than they may be
pub record AreTexts (sources : List (List ℕ)) : Type 0 where
  pub within : bytes_of sources ≤ most_bytes
  pub utf8 : AllByRecursion IsUtf8 sources
