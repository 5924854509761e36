-- The pairs that chains of causes lead to, as a set.
use Rattle.std.specs.Prelude.{◌≡◌, ℕ, ◌<◌, ◌⊎◌, true, List, Option, Some, None, slice_get}
use Rattle.cs_table.specs.Judged.{IsEarlier}
use Rattle.cs_reasons.specs.Marked.{marked}
use Rattle.cs_reasons.specs.Reasons.{IsReached}
use Rattle.cs_reasons.specs.declared.marks.Marks.{Marks}

module _ {C : Type 0} (leads_to : C → Option (ℕ × ℕ)) where
  -- one of the first causes leads to a pair
  abbrev pub IsLedTo : List C → ℕ → ℕ → ℕ → Type 0
  IsLedTo cs n j q = (k : ℕ) × (c : C) × (k < n) × (slice_get cs k ≡ Some c) × (leads_to c ≡ Some (j, q))

  -- the pairs that the first causes lead to are put into a set
  pub record AreMarked (cs : List C) (n : ℕ) (m m' : Marks) : Type 0 where
    pub kept : (j q : ℕ) → marked m j q ≡ true → marked m' j q ≡ true
    pub led : (j q : ℕ) → IsLedTo cs n j q → marked m' j q ≡ true
    pub new : (j q : ℕ) → marked m' j q ≡ true → (marked m j q ≡ true) ⊎ IsLedTo cs n j q

  module _ (is_cause : ℕ → ℕ → C → Type 0) (i r : ℕ) where
    -- a set is that of the pairs that chains of causes lead to
    pub record AreReached (m : Marks) : Type 0 where
      pub sound : (j q : ℕ) → marked m j q ≡ true → IsReached leads_to is_cause i r j q
      pub complete : (j q : ℕ) → IsReached leads_to is_cause i r j q → marked m j q ≡ true

    -- a pair comes after that which is next
    abbrev pub IsPast : Option (ℕ × ℕ) → ℕ → ℕ → Type 0
    IsPast None j q = Unit {0}
    IsPast (Some p) j q = IsEarlier p.0 p.1 j q

    abbrev pub IsNext : Marks → Option (ℕ × ℕ) → Type 0
    IsNext m None = Unit {0}
    IsNext m (Some p) = marked m p.0 p.1 ≡ true

    -- as long as the pair `at` is next: what the causes of later pairs lead to is in the set
    pub record AreReachedTo (at : Option (ℕ × ℕ)) (m : Marks) : Type 0 where
      pub sound : (j q : ℕ) → marked m j q ≡ true → IsReached leads_to is_cause i r j q
      pub first : marked m i r ≡ true
      pub next : IsNext m at
      pub done : (j q k s : ℕ) (c : C) → marked m j q ≡ true → IsPast at j q → is_cause j q c → leads_to c ≡ Some (k, s) → marked m k s ≡ true
