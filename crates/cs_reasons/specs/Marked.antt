-- Sets of pairs of an item and a rule.
use Rattle.std.specs.Prelude.{◌≡◌, ℕ, ◌<◌, ◌≤◌, Bool, true, false, Option, Some, None}
use Rattle.cs_table.specs.Judged.{AllVerdicts, IsEarlier}
use Rattle.cs_reasons.specs.Bits.{set_of}
use Rattle.cs_reasons.specs.declared.marks.Marks.{Marks}

-- whether a pair is in the set
unfoldable pub marked : Marks → AllVerdicts
marked m = set_of m.bytes.items m.items m.rules

-- the last pair of a set before a pair, if there is one
abbrev pub IsLastBefore : AllVerdicts → ℕ → ℕ → Option (ℕ × ℕ) → Type 0
IsLastBefore f i r None = (j q : ℕ) → f j q ≡ true → ¬ (IsEarlier j q i r)
IsLastBefore f i r (Some p) =
    (f p.0 p.1 ≡ true) × IsEarlier p.0 p.1 i r × ((j q : ℕ) → f j q ≡ true → IsEarlier p.0 p.1 j q → ¬ (IsEarlier j q i r))

-- the first pair of a set from a pair on, if there is one
abbrev pub IsFirstFrom : AllVerdicts → ℕ → ℕ → Option (ℕ × ℕ) → Type 0
IsFirstFrom f i r None = (j q : ℕ) → f j q ≡ true → IsEarlier j q i r
IsFirstFrom f i r (Some p) =
    (f p.0 p.1 ≡ true) × ¬ (IsEarlier p.0 p.1 i r) × ((j q : ℕ) → f j q ≡ true → IsEarlier j q p.0 p.1 → IsEarlier j q i r)

-- the last number of a set before a number, and the first one from a number on
abbrev pub IsLastRule : (ℕ → Bool) → ℕ → Option ℕ → Type 0
IsLastRule f n None = (q : ℕ) → q < n → f q ≡ false
IsLastRule f n (Some r) = (r < n) × (f r ≡ true) × ((q : ℕ) → r < q → q < n → f q ≡ false)

abbrev pub IsFirstRule : (ℕ → Bool) → ℕ → Option ℕ → Type 0
IsFirstRule f n None = (q : ℕ) → n ≤ q → f q ≡ false
IsFirstRule f n (Some r) = (n ≤ r) × (f r ≡ true) × ((q : ℕ) → n ≤ q → q < r → f q ≡ false)
