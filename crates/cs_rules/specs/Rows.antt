-- What is decided of each kind of values: a row of verdicts for each kind, and the rules that it leaves open.
use Rattle.std.specs.Prelude.{◌≡◌, ℕ, ◌<◌, ◌*◌, Bool, false, List, Option, Some, None, IsSome, Vec, option_and_then, unwrap_or, length, get_or, slice_get, slice_index}
use Rattle.std.specs.Global.{Global}
use Rattle.cs_table.specs.Decided.{IsNoneOf}
use Rattle.cs_table.specs.Judged.{Judgement, IsJudged, verdicts}
use Rattle.cs_table.specs.Limit.{most_pairs}
use Rattle.cs_rules.specs.Steps.{Step}
use Rattle.cs_rules.specs.Kinds.{row_of, AreForetold}
use Rattle.cs_rules.specs.declared.by_kind.ByKind.{ByKind}
use Rattle.cs_rules.specs.declared.rows.Rows.{Rows}

-- how many kinds of values there are
abbrev pub kind_count : ℕ
kind_count = 6

-- the verdict of a rule on the values of the kind at a place, if the kind decides it
abbrev pub verdict_at : List ByKind → ℕ → ℕ → Option Bool
verdict_at ks p r = option_and_then (λ k. get_or (row_of k) p None) (slice_get ks r)

-- the judge of kinds says yes where the kind decides that the rule holds; it looks at no table
abbrev pub kind_answer : List ByKind → Judgement
kind_answer ks p r f = unwrap_or (verdict_at ks p r) false

-- the rules below n that have no verdict, ascending
pub record AreOpen (n : ℕ) (verdict : ℕ → Option Bool) (rs : List ℕ) : Type 0 where
  pub within : (k : ℕ) → k < length rs → slice_index rs k < n
  pub ascends : (j k : ℕ) → j < k → k < length rs → slice_index rs j < slice_index rs k
  pub undecided : (k : ℕ) → k < length rs → verdict (slice_index rs k) ≡ None
  pub decided : (r : ℕ) → r < n → IsNoneOf rs r → IsSome (verdict r)

-- for each kind the rules that it leaves open
pub record AreOpenByKind (ks : List ByKind) (vs : List (Vec ℕ Global)) : Type 0 where
  pub count : length vs ≡ kind_count
  pub each : (p : ℕ) (v : Vec ℕ Global) → slice_get vs p ≡ Some v → AreOpen (length ks) (verdict_at ks p) v.items

-- a table with a row for each kind, and the rules that are open
pub record AreRows (ks : List ByKind) (rows : Rows) : Type 0 where
  pub items : rows.table.items ≡ kind_count
  pub rules : rows.table.rules ≡ length ks
  pub judged : IsJudged kind_count (length ks) (kind_answer ks) (verdicts rows.table)
  pub left : AreOpenByKind ks rows.left.items

-- the rows of these rules; there are none only where the table would be too large
abbrev pub AreRowsOf : {R : Type 0} → (R → Step) → List R → Option Rows → Type 0
AreRowsOf step rules None = most_pairs < kind_count * length rules
AreRowsOf step rules (Some rows) = (ks : List ByKind) × AreForetold step rules ks × AreRows ks rows
