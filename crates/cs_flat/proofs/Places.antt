-- Facts of each element of a list by its place.
use Rattle.std.proofs.Common.{◌≡◌, ℕ, zero, suc, ◌+◌, List, [], ◌∷◌, ◌++◌, length, Some, subst, arith}
use Rattle.std.specs.Prelude.{slice_get}

-- P of each element, where the first one is at n
abbrev pub EachFrom : {A : Type 0} → (ℕ → A → Type 0) → ℕ → List A → Type 0
EachFrom P n [] = Unit {0}
EachFrom P n (x ∷ xs) = P n x × EachFrom P (suc n) xs

-- of two lists, the second one from m on
pub joined : {A : Type 0} (P : ℕ → A → Type 0) (n m : ℕ) (xs ys : List A) → n + length xs ≡ m → EachFrom P n xs → EachFrom P m ys → EachFrom P n (xs ++ ys)
joined P n m [] ys e h k = let same : m ≡ n = omega arith in subst (λ j. EachFrom P j ys) same k
joined P n m (x ∷ xs) ys e h k = (h.0, joined P (suc n) m xs ys (omega arith) h.1 k)

pub parted : {A : Type 0} (P : ℕ → A → Type 0) (n m : ℕ) (xs ys : List A) → n + length xs ≡ m → EachFrom P n (xs ++ ys) → EachFrom P n xs × EachFrom P m ys
parted P n m [] ys e h = let same : n ≡ m = omega arith in (tt, subst (λ j. EachFrom P j ys) same h)
parted P n m (x ∷ xs) ys e h = let rest = parted P (suc n) m xs ys (omega arith) h.1 in ((h.0, rest.0), rest.1)

-- the same one place on, and back
pub raised : {A : Type 0} (P : ℕ → A → Type 0) (n : ℕ) (xs : List A) → EachFrom (λ i x. P (suc i) x) n xs → EachFrom P (suc n) xs
raised P n [] h = tt
raised P n (x ∷ xs) h = (h.0, raised P (suc n) xs h.1)

lowered : {A : Type 0} (P : ℕ → A → Type 0) (n : ℕ) (xs : List A) → EachFrom P (suc n) xs → EachFrom (λ i x. P (suc i) x) n xs
lowered P n [] h = tt
lowered P n (x ∷ xs) h = (h.0, lowered P (suc n) xs h.1)

-- of the element at a place
pub each_at : {A : Type 0} (P : ℕ → A → Type 0) (xs : List A) → EachFrom P 0 xs → (i : ℕ) (x : A) → slice_get xs i ≡ Some x → P i x
each_at P [] h i x e = cc
each_at P (y ∷ ys) h zero x e = let same : y ≡ x = cc in subst (P 0) same h.0
each_at P (y ∷ ys) h (suc i) x e = each_at (λ k z. P (suc k) z) ys (lowered P 0 ys h.1) i x e
