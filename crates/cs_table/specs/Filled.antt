-- Tables while they are filled.
use Rattle.std.specs.Prelude.{◌≡◌, ◌≢◌, ℕ, ◌<◌, ◌≤◌, ◌+◌, ◌*◌, Bool, false, length}
use Rattle.cs_table.specs.Judged.{Judgement, IsJudged, Table, verdicts}

-- two tables have the same sizes
abbrev pub AreOneSize : Table → Table → Type 0
AreOneSize t u = (u.items ≡ t.items) × (u.rules ≡ t.rules) × (length u.given ≡ length t.given)

-- the verdicts of the other items are the same in both tables
abbrev pub OtherItemsStay : ℕ → Table → Table → Type 0
OtherItemsStay i t u = (j r : ℕ) → r < t.rules → j ≢ i → verdicts u j r ≡ verdicts t j r

-- the verdicts of the other pairs are the same in both tables
abbrev pub OtherPairsStay : ℕ → ℕ → Table → Table → Type 0
OtherPairsStay i r t u = (j q : ℕ) → q < t.rules → (j ≡ i → q ≢ r) → verdicts u j q ≡ verdicts t j q

-- no item from that one on has a verdict yet
abbrev pub AreBlankFrom : ℕ → Table → Type 0
AreBlankFrom n t = (i r : ℕ) → r < t.rules → n ≤ i → verdicts t i r ≡ false

-- a table of these sizes without a verdict
pub record IsBlank (item_count rule_count : ℕ) (t : Table) : Type 0 where
  pub items : t.items ≡ item_count
  pub rules : t.rules ≡ rule_count
  pub count : length t.given ≡ item_count * rule_count
  pub blank : AreBlankFrom 0 t

-- a table of these sizes in which the first items have the judge's verdicts, and the others none yet
pub record IsFilledTo (n item_count rule_count : ℕ) (answers : Judgement) (t : Table) : Type 0 where
  pub items : t.items ≡ item_count
  pub rules : t.rules ≡ rule_count
  pub count : length t.given ≡ item_count * rule_count
  pub judged : IsJudged n rule_count answers (verdicts t)
  pub blank : AreBlankFrom n t

-- while an item is judged by so many rules in an order: the rules before place k have the judge's verdict, the others of
-- the order none yet, and the rules outside the order what was decided
pub record IsUnderWay (k i item_count rule_count : ℕ) (answers : Judgement) (order : ℕ → ℕ) (total : ℕ) (decided : ℕ → Bool) (t : Table) : Type 0 where
  pub items : t.items ≡ item_count
  pub rules : t.rules ≡ rule_count
  pub count : length t.given ≡ item_count * rule_count
  pub judged : IsJudged i rule_count answers (verdicts t)
  pub here : (j : ℕ) → j < k → verdicts t i (order j) ≡ answers i (order j) (verdicts t)
  pub left : (j : ℕ) → k ≤ j → j < total → verdicts t i (order j) ≡ false
  pub outside : (r : ℕ) → r < rule_count → ((j : ℕ) → j < total → order j ≢ r) → verdicts t i r ≡ decided r
  pub blank : AreBlankFrom (i + 1) t
