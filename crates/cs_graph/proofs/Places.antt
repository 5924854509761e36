-- What is in a list, and lists in which nothing stands twice.
use Rattle.std.proofs.Common.{◌≡◌, ℕ, zero, suc, ◌<◌, List, [], ◌∷◌, ◌++◌, ◌⊎◌, inl, inr, length, take, drop, get_or, refl, sym, subst, arith}
use Rattle.std.specs.List.{All}
use Rattle.cs_graph.specs.Chains.{On, Distinct}

pub on_left : {X : Type 0} (x : X) (xs ys : List X) → On x xs → On x (xs ++ ys)
on_left x [] ys h = absurd h
on_left x (y ∷ xs) ys (inl e) = inl e
on_left x (y ∷ xs) ys (inr h) = inr (on_left x xs ys h)

pub on_right : {X : Type 0} (x : X) (xs ys : List X) → On x ys → On x (xs ++ ys)
on_right x [] ys h = h
on_right x (y ∷ xs) ys h = inr (on_right x xs ys h)

pub on_split : {X : Type 0} (x : X) (xs ys : List X) → On x (xs ++ ys) → On x xs ⊎ On x ys
on_split x [] ys h = inr h
on_split x (y ∷ xs) ys (inl e) = inl (inl e)
on_split x (y ∷ xs) ys (inr h) = elim (on_split x xs ys h) [ inl a ↦ inl (inr a) | inr b ↦ inr b ]

pub on_end : {X : Type 0} (x : X) (xs : List X) → On x (xs ++ x ∷ [])
on_end x [] = inl refl
on_end x (y ∷ xs) = inr (on_end x xs)

-- the last apart from those before it
pub on_cases : {X : Type 0} (x y : X) (xs : List X) → On x (xs ++ y ∷ []) → On x xs ⊎ (x ≡ y)
on_cases x y xs h = elim (on_split x xs (y ∷ []) h) [ inl a ↦ inl a | inr b ↦ elim b [ inl e ↦ inr e | inr o ↦ absurd o ] ]

pub on_take : {X : Type 0} (x : X) (n : ℕ) (xs : List X) → On x (take n xs) → On x xs
on_take x zero xs o = absurd o
on_take x (suc n) [] o = o
on_take x (suc n) (y ∷ xs) (inl e) = inl e
on_take x (suc n) (y ∷ xs) (inr o) = inr (on_take x n xs o)

pub on_drop : {X : Type 0} (x : X) (n : ℕ) (xs : List X) → On x (drop n xs) → On x xs
on_drop x zero xs o = o
on_drop x (suc n) [] o = o
on_drop x (suc n) (y ∷ xs) o = inr (on_drop x n xs o)

pub on_get : {X : Type 0} (xs : List X) (i : ℕ) (d : X) → i < length xs → On (get_or xs i d) xs
on_get [] i d l = absurd (omega arith)
on_get (x ∷ xs) zero d l = inl refl
on_get (x ∷ xs) (suc i) d l = inr (on_get xs i d (omega arith))

pub all_on : {X : Type 0} (P : X → Type 0) (xs : List X) (x : X) → All P xs → On x xs → P x
all_on P [] x all o = absurd o
all_on P (y ∷ xs) x all (inl e) = subst P (sym e) (all 0 y (omega arith))
all_on P (y ∷ xs) x all (inr o) = all_on P xs x (λ k d l. all (suc k) d (omega arith)) o

pub distinct_front : {X : Type 0} (xs ys : List X) → Distinct (xs ++ ys) → Distinct xs
distinct_front [] ys d = tt
distinct_front (x ∷ xs) ys d = ((λ o. d.0 (on_left x xs ys o)), distinct_front xs ys d.1)

pub distinct_back : {X : Type 0} (xs ys : List X) → Distinct (xs ++ ys) → Distinct ys
distinct_back [] ys d = d
distinct_back (x ∷ xs) ys d = distinct_back xs ys d.1

pub distinct_apart : {X : Type 0} (x : X) (xs ys : List X) → Distinct (xs ++ ys) → On x xs → On x ys → ⊥
distinct_apart x [] ys d a b = a
distinct_apart x (y ∷ xs) ys d (inl e) b = d.0 (on_right y xs ys (let Q : _ → Type 0 = λ z. On z ys in subst Q e b))
distinct_apart x (y ∷ xs) ys d (inr a) b = distinct_apart x xs ys d.1 a b

pub distinct_join : {X : Type 0} (xs ys : List X) → Distinct xs → Distinct ys → ((x : X) → On x xs → On x ys → ⊥) → Distinct (xs ++ ys)
distinct_join [] ys c d apart = d
distinct_join (x ∷ xs) ys c d apart =
    ((λ o. elim (on_split x xs ys o) [ inl a ↦ c.0 a | inr b ↦ apart x (inl refl) b ]), distinct_join xs ys c.1 d (λ y a b. apart y (inr a) b))

-- the two parts may change places
pub distinct_turned : {X : Type 0} (xs ys : List X) → Distinct (xs ++ ys) → Distinct (ys ++ xs)
distinct_turned xs ys d = distinct_join ys xs (distinct_back xs ys d) (distinct_front xs ys d) (λ x a b. distinct_apart x xs ys d b a)

-- one more at the end
pub distinct_push : {X : Type 0} (x : X) (xs : List X) → Distinct xs → (On x xs → ⊥) → Distinct (xs ++ x ∷ [])
distinct_push x xs d h = distinct_join xs (x ∷ []) d ((λ o. o), tt) (λ y a b. elim b [ inl e ↦ h (let Q : _ → Type 0 = λ z. On z xs in subst Q e a) | inr o ↦ absurd o ])

-- the last is nowhere before
pub last_apart : {X : Type 0} (x : X) (xs : List X) → Distinct (xs ++ x ∷ []) → On x xs → ⊥
last_apart x xs d o = distinct_apart x xs (x ∷ []) d o (inl refl)
