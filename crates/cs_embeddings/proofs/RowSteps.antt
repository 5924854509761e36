-- Rows that are united, place by place.
use Rattle.std.proofs.Common.{◌≡◌, ◌≢◌, ℕ, ◌+◌, ◌<◌, ◌≤◌, Bool, true, false, ◌||◌, ◌⊎◌, inl, inr, List, [], ◌∷◌, ◌++◌, length, get_or, refl, sym, ap, ◌∙◌, arith, length-append}
use Rattle.std.proofs.Math.Bool.{or-false}
use Rattle.std.proofs.Math.Dec.{eqb}
use Rattle.std.proofs.Math.ListN.{get_or-eq_default}
use Rattle.std.proofs.lemmas.Bool.Decides.{eqb_tells}
use Rattle.std.proofs.lemmas.List.{get_or_push, get_or_append_left, get_or-set_same, get_or-set_other, length-set}
use Rattle.std.specs.Prelude.{slice_set}

pub behind : (row : List Bool) (i : ℕ) → length row ≤ i → get_or row i false ≡ false
behind row i l = get_or-eq_default row false l

or_true : (b : Bool) → true ≡ (b || true)
or_true true = refl
or_true false = refl

module _ (old other : List Bool) where
  -- the first so many places are united
  abbrev pub IsUnited : ℕ → List Bool → Type 0
  IsUnited p row =
      (p ≤ length row)
      × ((most : ℕ) → length old ≤ most → length other ≤ most → length row ≤ most)
      × ((i : ℕ) → i < p → get_or row i false ≡ (get_or old i false || get_or other i false))
      × ((i : ℕ) → p ≤ i → get_or row i false ≡ get_or old i false)

  module _ (p : ℕ) (row : List Bool) (u : IsUnited p row) (l : p < length other) where
    pub united_push : (b : Bool) → length row ≤ p → b ≡ get_or other p false → IsUnited (p + 1) (row ++ b ∷ [])
    united_push b end is = (
      omega (arith, long, u.0),
      λ most h k. omega (arith, long, end, l, k),
      λ i less. by i less (eqb_tells i p),
      λ i more.
          let later : p ≤ i = omega (arith, more) in
          let past : length (row ++ b ∷ []) ≤ i = omega (arith, long, end, more) in
          let past_row : length row ≤ i = omega (arith, end, more) in
          behind (row ++ b ∷ []) i past ∙ sym (behind row i past_row) ∙ u.3 i later,
    )
      where
        long : length (row ++ b ∷ []) ≡ length row + 1
        long = length-append row (b ∷ [])

        ends : length row ≡ p
        ends = omega (arith, end, u.0)

        here : get_or (row ++ b ∷ []) p false ≡ (get_or old p false || get_or other p false)
        here =
            get_or_push row b false p ends ∙ is ∙ sym (ap (λ c. c || get_or other p false) (sym (u.3 p (omega arith)) ∙ behind row p end))

        by : (i : ℕ) → i < p + 1 → ((eqb i p ≡ true) × (i ≡ p)) ⊎ ((eqb i p ≡ false) × (i ≢ p))
            → get_or (row ++ b ∷ []) i false ≡ (get_or old i false || get_or other i false)
        by i less (inl h) = ap (λ j. get_or (row ++ b ∷ []) j false) h.1 ∙ here ∙ ap (λ j. get_or old j false || get_or other j false) (sym h.1)
        by i less (inr h) =
            let before : i < p = omega (arith, less, h.1) in
            let inside : i < length row = omega (arith, before, ends) in
            get_or_append_left row (b ∷ []) false i inside ∙ u.2 i before

    pub united_set : p < length row → get_or other p false ≡ true → IsUnited (p + 1) (slice_set row p true)
    united_set inside is = (
      omega (arith, long, inside),
      λ most h k. let short = u.1 most h k in omega (arith, long, short),
      λ i less. by i less (eqb_tells i p),
      λ i more.
          let later : p ≤ i = omega (arith, more) in
          let other_place : i ≢ p = omega (arith, more) in
          get_or-set_other row p i true false other_place ∙ u.3 i later,
    )
      where
        long : length (slice_set row p true) ≡ length row
        long = length-set row p true

        here : get_or (slice_set row p true) p false ≡ (get_or old p false || get_or other p false)
        here = get_or-set_same row p true false inside ∙ or_true (get_or old p false) ∙ ap (λ c. get_or old p false || c) (sym is)

        by : (i : ℕ) → i < p + 1 → ((eqb i p ≡ true) × (i ≡ p)) ⊎ ((eqb i p ≡ false) × (i ≢ p))
            → get_or (slice_set row p true) i false ≡ (get_or old i false || get_or other i false)
        by i less (inl h) = ap (λ j. get_or (slice_set row p true) j false) h.1 ∙ here ∙ ap (λ j. get_or old j false || get_or other j false) (sym h.1)
        by i less (inr h) = let before : i < p = omega (arith, less, h.1) in get_or-set_other row p i true false h.1 ∙ u.2 i before

    pub united_same : p < length row → get_or other p false ≡ false → IsUnited (p + 1) row
    united_same inside is = (
      omega (arith, inside),
      u.1,
      λ i less. by i less (eqb_tells i p),
      λ i more. let later : p ≤ i = omega (arith, more) in u.3 i later,
    )
      where
        here : get_or row p false ≡ (get_or old p false || get_or other p false)
        here = u.3 p (omega arith) ∙ sym (or-false (get_or old p false)) ∙ ap (λ c. get_or old p false || c) (sym is)

        by : (i : ℕ) → i < p + 1 → ((eqb i p ≡ true) × (i ≡ p)) ⊎ ((eqb i p ≡ false) × (i ≢ p))
            → get_or row i false ≡ (get_or old i false || get_or other i false)
        by i less (inl h) = ap (λ j. get_or row j false) h.1 ∙ here ∙ ap (λ j. get_or old j false || get_or other j false) (sym h.1)
        by i less (inr h) = let before : i < p = omega (arith, less, h.1) in u.2 i before
