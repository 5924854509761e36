-- What is decided of an item before its rules are judged.
use Rattle.std.specs.Prelude.{◌≡◌, ◌≢◌, ℕ, ◌<◌, false, List, length, slice_index}
use Rattle.cs_table.specs.Judged.{AllVerdicts, Judgement, verdicts}
use Rattle.cs_table.specs.declared.judging.Row.{Row}

-- a rule that is none of these
abbrev pub IsNoneOf : List ℕ → ℕ → Type 0
IsNoneOf rs r = (k : ℕ) → k < length rs → slice_index rs k ≢ r

-- a table has the verdicts that are decided of the item
abbrev pub HasDecided : ℕ → ℕ → Row → AllVerdicts → Type 0
HasDecided rules i row f = (r : ℕ) → r < rules → IsNoneOf row.left.now r → f i r ≡ verdicts row.table.now row.item r

-- the rules that are left ascend and have no verdict yet; the others are judged as decided by every table that has these
-- verdicts
pub record IsDecided (rules : ℕ) (judge : Judgement) (i : ℕ) (row : Row) : Type 0 where
  pub width : row.table.now.rules ≡ rules
  pub item : row.item < row.table.now.items
  pub within : (k : ℕ) → k < length row.left.now → slice_index row.left.now k < rules
  pub ascends : (j k : ℕ) → j < k → k < length row.left.now → slice_index row.left.now j < slice_index row.left.now k
  pub undecided : (k : ℕ) → k < length row.left.now → verdicts row.table.now row.item (slice_index row.left.now k) ≡ false
  pub judged : (f : AllVerdicts) → HasDecided rules i row f → (r : ℕ) → r < rules → IsNoneOf row.left.now r → judge i r f ≡ verdicts row.table.now row.item r
