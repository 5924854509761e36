-- The elements of lists to which one is added, or of which one is replaced.
use Rattle.std.proofs.Common.{◌≡◌, ◌≢◌, ℕ, zero, suc, ◌<◌, ◌≤◌, ◌+◌, ◌⊎◌, ⊎_elim, inl, inr, List, [], ◌∷◌, ◌++◌, length, map, take, Some, ap, ap₂, sym, refl, arith}
use Rattle.std.specs.Prelude.{slice_get, slice_set}

module _ {A : Type 0} where
  pub some_same : (x y : A) → Some x ≡ Some y → x ≡ y
  some_same x y e = cc

  pub at_front : (xs ys : List A) (k : ℕ) (x : A) → slice_get xs k ≡ Some x → slice_get (xs ++ ys) k ≡ Some x
  at_front [] ys k x e = absurd (cc)
  at_front (y ∷ xs) ys zero x e = e
  at_front (y ∷ xs) ys (suc k) x e = at_front xs ys k x e

  pub at_end : (xs : List A) (x : A) → slice_get (xs ++ x ∷ []) (length xs) ≡ Some x
  at_end [] x = refl
  at_end (y ∷ xs) x = at_end xs x

  -- an element is an earlier one or the last
  pub at_either : (xs : List A) (x : A) (k : ℕ) (y : A) → slice_get (xs ++ x ∷ []) k ≡ Some y → (slice_get xs k ≡ Some y) ⊎ ((k ≡ length xs) × (y ≡ x))
  at_either [] x zero y e = inr (refl, sym (some_same x y e))
  at_either [] x (suc k) y e = absurd (cc)
  at_either (z ∷ xs) x zero y e = inl e
  at_either (z ∷ xs) x (suc k) y e = ⊎_elim
      (λ (h : slice_get xs k ≡ Some y). inl h)
      (λ (h : (k ≡ length xs) × (y ≡ x)). inr (ap suc h.0, h.1))
      (at_either xs x k y e)

  pub at_set : (xs : List A) (k : ℕ) (x : A) → k < length xs → slice_get (slice_set xs k x) k ≡ Some x
  at_set [] k x l = absurd (omega arith)
  at_set (y ∷ xs) zero x l = refl
  at_set (y ∷ xs) (suc k) x l = at_set xs k x (omega arith)

  pub at_other : (xs : List A) (k : ℕ) (x : A) (j : ℕ) → j ≢ k → slice_get (slice_set xs k x) j ≡ slice_get xs j
  at_other [] k x j ne = refl
  at_other (y ∷ xs) zero x zero ne = absurd (ne refl)
  at_other (y ∷ xs) zero x (suc j) ne = refl
  at_other (y ∷ xs) (suc k) x zero ne = refl
  at_other (y ∷ xs) (suc k) x (suc j) ne = at_other xs k x j (λ e. ne (ap suc e))

  pub length_more : (xs : List A) (x : A) → length (xs ++ x ∷ []) ≡ length xs + 1
  length_more [] x = refl
  length_more (y ∷ xs) x = let e = length_more xs x in omega arith

  pub is_there : (xs : List A) (k : ℕ) → k < length xs → (x : A) × (slice_get xs k ≡ Some x)
  is_there [] k l = absurd (omega arith)
  is_there (x ∷ xs) zero l = (x, refl)
  is_there (x ∷ xs) (suc k) l = is_there xs k (omega arith)

  pub take_none : (n : ℕ) → take {A = A} n [] ≡ []
  take_none zero = refl
  take_none (suc n) = refl

  -- a list that is taken whole is taken whole with one more, if that is not too many
  pub take_more : (n : ℕ) (xs : List A) (x : A) → length xs < n → take n xs ++ x ∷ [] ≡ take n (xs ++ x ∷ [])
  take_more zero xs x l = absurd (omega arith)
  take_more (suc n) [] x l = ap (λ ys. x ∷ ys) (sym (take_none n))
  take_more (suc n) (y ∷ xs) x l = ap (λ ys. y ∷ ys) (take_more n xs x (omega arith))

  pub take_same : (n : ℕ) (xs : List A) (x : A) → n ≤ length xs → take n (xs ++ x ∷ []) ≡ take n xs
  take_same zero xs x l = refl
  take_same (suc n) [] x l = absurd (omega arith)
  take_same (suc n) (y ∷ xs) x l = ap (λ ys. y ∷ ys) (take_same n xs x (omega arith))

  pub length_taken : (n : ℕ) (xs : List A) → length (take n xs) < n → length xs < n
  length_taken zero xs l = absurd (omega arith)
  length_taken (suc n) [] l = omega arith
  length_taken (suc n) (y ∷ xs) l = let m = length_taken n xs (omega arith) in omega arith

  pub taken_all : (n : ℕ) (xs : List A) → n ≤ length (take n xs) → n ≤ length xs
  taken_all zero xs l = omega arith
  taken_all (suc n) [] l = absurd (omega arith)
  taken_all (suc n) (y ∷ xs) l = let m = taken_all n xs (omega arith) in omega arith

module _ {A B : Type 0} where
  pub map_agrees : (f g : A → B) (xs : List A) → ((k : ℕ) (x : A) → slice_get xs k ≡ Some x → f x ≡ g x) → map f xs ≡ map g xs
  map_agrees f g [] same = refl
  map_agrees f g (x ∷ xs) same = ap₂ (λ y ys. y ∷ ys) (same 0 x refl) (map_agrees f g xs (λ k y e. same (suc k) y e))

  pub map_more : (f : A → B) (xs : List A) (x : A) → map f (xs ++ x ∷ []) ≡ map f xs ++ f x ∷ []
  map_more f [] x = refl
  map_more f (y ∷ xs) x = ap (λ ys. f y ∷ ys) (map_more f xs x)

  pub length_mapped : (f : A → B) (xs : List A) → length (map f xs) ≡ length xs
  length_mapped f [] = refl
  length_mapped f (x ∷ xs) = ap suc (length_mapped f xs)
