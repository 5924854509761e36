-- The pairs and causes that are passed, in the order of pairs.
use Rattle.std.specs.Prelude.{◌≡◌, ℕ, ◌<◌, ◌⊎◌, List, Option, Some, None, slice_get}
use Rattle.cs_table.specs.Judged.{IsEarlier}
use Rattle.cs_reasons.specs.Reasons.{IsReached}
use Rattle.cs_reasons.specs.Listed.{AreListed}
use Rattle.cs_reasons.specs.declared.reasons.Reasons.{Reasons}

-- a pair comes before that which is next
abbrev pub IsPassed : Option (ℕ × ℕ) → ℕ → ℕ → Type 0
IsPassed None j q = Unit {0}
IsPassed (Some p) j q = IsEarlier j q p.0 p.1

-- a pair comes before another, or is that one
abbrev pub IsUpTo : ℕ → ℕ → ℕ → ℕ → Type 0
IsUpTo j q i r = IsEarlier j q i r ⊎ ((j ≡ i) × (q ≡ r))

module _ {C : Type 0} (leads_to : C → Option (ℕ × ℕ)) (is_cause : ℕ → ℕ → C → Type 0) (i r : ℕ) where
  -- pairs that chains lead to, before that which is next, and their causes
  abbrev pub IsPairBefore : Option (ℕ × ℕ) → ℕ → ℕ → Type 0
  IsPairBefore at j q = IsReached leads_to is_cause i r j q × IsPassed at j q

  abbrev pub IsCauseBefore : Option (ℕ × ℕ) → (ℕ × ℕ) × C → Type 0
  IsCauseBefore at e = IsReached leads_to is_cause i r e.0.0 e.0.1 × is_cause e.0.0 e.0.1 e.1 × IsPassed at e.0.0 e.0.1

  -- the same at a pair of which the first causes are done
  abbrev pub IsPairTo : ℕ → ℕ → ℕ → ℕ → Type 0
  IsPairTo n k j q = IsReached leads_to is_cause i r j q × IsUpTo j q n k

  abbrev pub IsOneOf : List C → ℕ → ℕ → ℕ → (ℕ × ℕ) × C → Type 0
  IsOneOf cs h n k e = (j : ℕ) × (j < h) × (e.0.0 ≡ n) × (e.0.1 ≡ k) × (slice_get cs j ≡ Some e.1)

  abbrev pub IsCauseTo : List C → ℕ → ℕ → ℕ → (ℕ × ℕ) × C → Type 0
  IsCauseTo cs h n k e = IsCauseBefore (Some (n, k)) e ⊎ IsOneOf cs h n k e

  -- all that is before the next pair is listed
  pub record AreListedTo (most : ℕ) (at : Option (ℕ × ℕ)) (rs : Reasons C) : Type 0 where
    pub listed : AreListed leads_to (IsPairBefore at) (IsCauseBefore at) most rs
    pub some : (j q : ℕ) → IsReached leads_to is_cause i r j q → IsPassed at j q → 0 < rs.count
