-- Why a pair of an item and a rule is refused: chains of causes, down to what refuses an item by itself. A cause leads to
-- another pair, which is refused too, or nowhere: it is then a leaf.
use Rattle.std.specs.Prelude.{◌≡◌, ℕ, ◌<◌, Bool, true, false, List, Option, Some, None, Contains, length, slice_get}
use Rattle.cs_table.specs.Judged.{AllVerdicts}

-- these are all causes, each once, and there is one
pub record AreCauses {C : Type 0} (is_cause : C → Type 0) (cs : List C) : Type 0 where
  pub sound : (k : ℕ) (c : C) → slice_get cs k ≡ Some c → is_cause c
  pub complete : (c : C) → is_cause c → Contains cs c
  pub once : (j k : ℕ) (c : C) → slice_get cs j ≡ Some c → slice_get cs k ≡ Some c → j ≡ k
  pub some : 0 < length cs

module _ {C : Type 0} (leads_to : C → Option (ℕ × ℕ)) (is_cause : ℕ → ℕ → C → Type 0) where
  -- the pairs that chains of causes lead to from the pair i, r
  pub data IsReached (i r : ℕ) : ℕ → ℕ → Type 0 where
    first : IsReached i r i r
    next : {j q k s : ℕ} {c : C} → IsReached i r j q → is_cause j q c → leads_to c ≡ Some (k, s) → IsReached i r k s

  -- a leaf of a pair that a chain leads to
  pub record IsReason (i r : ℕ) (e : (ℕ × ℕ) × C) : Type 0 where
    pub reached : IsReached i r e.0.0 e.0.1
    pub cause : is_cause e.0.0 e.0.1 e.1
    pub leaf : leads_to e.1 ≡ None

  -- of the alternatives those that were chosen, and where none of them was, that none holds; and all other causes
  pub data IsFollowed (is_alternative : C → Bool) (none : C) (chosen : AllVerdicts) (i r : ℕ) : C → Type 0 where
    other : {c : C} → is_cause i r c → is_alternative c ≡ false → IsFollowed is_alternative none chosen i r c
    alternative : {c : C} {j q : ℕ} → is_cause i r c → is_alternative c ≡ true → leads_to c ≡ Some (j, q) → chosen j q ≡ true → IsFollowed is_alternative none chosen i r c
    unchosen : {c : C} → is_cause i r c → is_alternative c ≡ true
        → ((d : C) (j q : ℕ) → is_cause i r d → is_alternative d ≡ true → leads_to d ≡ Some (j, q) → chosen j q ≡ false)
        → IsFollowed is_alternative none chosen i r none
