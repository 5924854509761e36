-- Lists with an element of which a fact holds.
use Rattle.std.proofs.Common.{◌≡◌, ℕ, zero, suc, ◌<◌, List, [], ◌∷◌, ◌++◌, ◌⊎◌, inl, inr, length, get_or, Contains, refl, sym, subst, arith}

pub or_map : {A B C D : Type 0} → A ⊎ B → (A → C) → (B → D) → C ⊎ D
or_map (inl a) f g = inl (f a)
or_map (inr b) f g = inr (g b)

-- P holds of some element
abbrev pub Has : {X : Type 0} → (X → Type 0) → List X → Type 0
Has P [] = ⊥
Has P (x ∷ xs) = P x ⊎ Has P xs

module _ {X : Type 0} (P : X → Type 0) where
  pub has_left : (xs ys : List X) → Has P xs → Has P (xs ++ ys)
  has_left [] ys h = absurd h
  has_left (x ∷ xs) ys (inl p) = inl p
  has_left (x ∷ xs) ys (inr h) = inr (has_left xs ys h)

  pub has_right : (xs ys : List X) → Has P ys → Has P (xs ++ ys)
  has_right [] ys h = h
  has_right (x ∷ xs) ys h = inr (has_right xs ys h)

  pub has_cases : (xs ys : List X) → Has P (xs ++ ys) → Has P xs ⊎ Has P ys
  has_cases [] ys h = inr h
  has_cases (x ∷ xs) ys (inl p) = inl (inl p)
  has_cases (x ∷ xs) ys (inr h) = or_map (has_cases xs ys h) (λ k. inr k) (λ k. k)

  -- P holds of an element x that the list contains
  pub has_element : (xs : List X) (x : X) → Contains xs x → P x → Has P xs
  has_element xs x c p = by xs c.0 c.1 c.2
    where
      by : (ys : List X) (k : ℕ) → k < length ys → get_or ys k x ≡ x → Has P ys
      by [] k l e = absurd (omega arith)
      by (y ∷ ys) zero l e = inl (subst P (sym e) p)
      by (y ∷ ys) (suc k) l e = inr (by ys k (omega arith) e)

  pub element_of : (xs : List X) → Has P xs → (x : X) × Contains xs x × P x
  element_of [] h = absurd h
  element_of (x ∷ xs) (inl p) = (x, (0, omega arith, refl), p)
  element_of (x ∷ xs) (inr h) = let r = element_of xs h in (r.0, (suc r.1.0, (let l = r.1.1 in omega arith), r.1.2), r.2)
