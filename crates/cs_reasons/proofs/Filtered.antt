-- The elements of a filtered list.
use Rattle.std.proofs.Common.{◌≡◌, ℕ, zero, suc, ◌⊎◌, ⊎_elim, inl, inr, Bool, true, false, cond, List, [], ◌∷◌, filter, Some, ap, ◌∙◌, sym, subst, refl, arith}
use Rattle.std.specs.Prelude.{slice_get}

is_which : (b : Bool) → (b ≡ true) ⊎ (b ≡ false)
is_which true = inl refl
is_which false = inr refl

module _ {A : Type 0} (p : A → Bool) where
  front : (x : A) (xs : List A) → p x ≡ true → filter p (x ∷ xs) ≡ x ∷ filter p xs
  front x xs e = ap (λ b. cond b (x ∷ filter p xs) (filter p xs)) e

  back : (x : A) (xs : List A) → p x ≡ false → filter p (x ∷ xs) ≡ filter p xs
  back x xs e = ap (λ b. cond b (x ∷ filter p xs) (filter p xs)) e

  -- what is left was there, and passes
  abbrev pub WasThere : List A → A → Type 0
  WasThere xs y = (j : ℕ) × (slice_get xs j ≡ Some y) × (p y ≡ true)

  at_front_or : (x : A) (xs : List A) (k : ℕ) (y : A) → p x ≡ true → slice_get (x ∷ filter p xs) k ≡ Some y → ((j : ℕ) → slice_get (filter p xs) j ≡ Some y → WasThere xs y) → WasThere (x ∷ xs) y
  at_front_or x xs zero y e at rest =
      let s : x ≡ y = cc in
      (0, at, ap p (sym s) ∙ e)
  at_front_or x xs (suc k) y e at rest = let h = rest k at in (suc h.0, h.1, h.2)

  pub was_there : (xs : List A) (k : ℕ) (y : A) → slice_get (filter p xs) k ≡ Some y → WasThere xs y
  was_there [] k y at = absurd (cc)
  was_there (x ∷ xs) k y at = ⊎_elim
      (λ (e : p x ≡ true). at_front_or x xs k y e (subst (λ ys. slice_get ys k ≡ Some y) (front x xs e) at) (λ j h. was_there xs j y h))
      (λ (e : p x ≡ false). let h = was_there xs k y (subst (λ ys. slice_get ys k ≡ Some y) (back x xs e) at) in (suc h.0, h.1, h.2))
      (is_which (p x))

  -- what passes is left
  abbrev pub IsLeft : List A → A → Type 0
  IsLeft xs y = (j : ℕ) × (slice_get (filter p xs) j ≡ Some y)

  pub is_left : (xs : List A) (k : ℕ) (y : A) → slice_get xs k ≡ Some y → p y ≡ true → IsLeft xs y
  is_left [] k y at e = absurd (cc)
  is_left (x ∷ xs) zero y at e =
      let s : x ≡ y = cc in
      (0, subst (λ ys. slice_get ys 0 ≡ Some y) (sym (front x xs (ap p s ∙ e))) at)
  is_left (x ∷ xs) (suc k) y at e = let h = is_left xs k y at e in ⊎_elim
      (λ (f : p x ≡ true). (suc h.0, subst (λ ys. slice_get ys (suc h.0) ≡ Some y) (sym (front x xs f)) h.1))
      (λ (f : p x ≡ false). (h.0, subst (λ ys. slice_get ys h.0 ≡ Some y) (sym (back x xs f)) h.1))
      (is_which (p x))

  abbrev pub IsOnce : List A → Type 0
  IsOnce xs = (j k : ℕ) (y : A) → slice_get xs j ≡ Some y → slice_get xs k ≡ Some y → j ≡ k

  suc_same : (j k : ℕ) → suc j ≡ suc k → j ≡ k
  suc_same j k e = omega arith

  with_front : (x : A) (xs : List A) → p x ≡ true → IsOnce (x ∷ xs) → IsOnce (filter p xs) → IsOnce (x ∷ filter p xs)
  with_front x xs e once rest zero zero y a b = refl
  with_front x xs e once rest zero (suc k) y a b = let h = was_there xs k y b in absurd (let s = once 0 (suc h.0) y a h.1 in omega arith)
  with_front x xs e once rest (suc j) zero y a b = let h = was_there xs j y a in absurd (let s = once 0 (suc h.0) y b h.1 in omega arith)
  with_front x xs e once rest (suc j) (suc k) y a b = ap suc (rest j k y a b)

  -- what is there once is left once
  pub left_once : (xs : List A) → IsOnce xs → IsOnce (filter p xs)
  left_once [] once = once
  left_once (x ∷ xs) once =
      let rest = left_once xs (λ j k y a b. suc_same j k (once (suc j) (suc k) y a b)) in
      ⊎_elim
      (λ (e : p x ≡ true). subst IsOnce (sym (front x xs e)) (with_front x xs e once rest))
      (λ (e : p x ≡ false). subst IsOnce (sym (back x xs e)) rest)
      (is_which (p x))
