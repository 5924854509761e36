-- Tables of verdicts, in which each verdict is what a judge gives with that table.
use Rattle.std.specs.Prelude.{◌≡◌, ℕ, ◌<◌, ◌⊎◌, ◌+◌, ◌*◌, Bool, false, List, get_or}

-- the verdict of each item by each rule
abbrev pub AllVerdicts : Type 0
AllVerdicts = ℕ → ℕ → Bool

-- what a judge answers for an item and a rule, where a table gives the verdicts of other pairs
abbrev pub Judgement : Type 0
Judgement = ℕ → ℕ → AllVerdicts → Bool

-- pairs are ordered by item, then by rule: the pair j, q comes before the pair i, r
abbrev pub IsEarlier : ℕ → ℕ → ℕ → ℕ → Type 0
IsEarlier j q i r = (j < i) ⊎ ((j ≡ i) × (q < r))

-- two tables of so many rules agree on all pairs before the pair i, r
abbrev pub AgreeBefore : ℕ → ℕ → ℕ → AllVerdicts → AllVerdicts → Type 0
AgreeBefore rules i r f g = (j q : ℕ) → q < rules → IsEarlier j q i r → f j q ≡ g j q

-- a judge looks at earlier pairs alone: it answers the same by two tables that agree on them
abbrev pub LooksBack : ℕ → Judgement → Type 0
LooksBack rules judge = (i r : ℕ) (f g : AllVerdicts) → AgreeBefore rules i r f g → judge i r f ≡ judge i r g

-- each verdict of the table is what the judge gives with this very table
abbrev pub IsJudged : ℕ → ℕ → Judgement → AllVerdicts → Type 0
IsJudged items rules judge f = (i r : ℕ) → i < items → r < rules → f i r ≡ judge i r f

-- a table of so many items and rules, with the verdicts given so far, item by item
pub record Table : Type 0 where
  pub items : ℕ
  pub rules : ℕ
  pub given : List Bool

-- the verdict of a pair, which is no as long as none was given
abbrev pub verdicts : Table → AllVerdicts
verdicts t i r = get_or t.given (i * t.rules + r) false
