-- The first of the faults of several parts.
use Rattle.std.proofs.Common.{◌≡◌, ℕ, suc, ◌+◌, ◌<◌, List, [], ◌∷◌, ◌++◌, map, drop, length, get_or, inl, inr, refl, sym, ap, ◌∙◌, subst, add-one}
use Rattle.std.proofs.Math.Seq.{drop-cons}
use Rattle.cs_resolve.specs.Checks.{Refuses}
use Rattle.cs_resolve.specs.declared.fault.ResolveFault.{ResolveFault}

pub at_place : {X : Type 0} (xs : List X) (i : ℕ) (x : X) → i < length xs → x ≡ get_or xs i x → drop i xs ≡ x ∷ drop (i + 1) xs
at_place xs i x l e = rw add-one (drop-cons xs i x l ∙ ap (λ y. y ∷ drop (suc i) xs) (sym e))

module _ {X : Type 0} where
  pub nil_left : (xs ys : List X) → xs ++ ys ≡ [] → xs ≡ []
  nil_left [] ys h = refl
  nil_left (x ∷ xs) ys h = cc

  pub nil_right : (xs ys : List X) → xs ++ ys ≡ [] → ys ≡ []
  nil_right [] ys h = h
  nil_right (x ∷ xs) ys h = cc

  module _ (f : X → ResolveFault) (e : ResolveFault) where
    -- the first of the first part
    pub first_left : (xs ys : List X) → Refuses e f xs → Refuses e f (xs ++ ys)
    first_left [] ys (inl h) = inl h
    first_left [] ys (inr h) = cc
    first_left (x ∷ xs) ys h = h

    pub same_first : (xs ys : List X) → xs ≡ ys → Refuses e f xs → Refuses e f ys
    same_first xs ys same h = subst (λ zs. Refuses e f zs) same h

-- F gathers the faults of a list, part by part
module _ {A X : Type 0} (F : List A → List X) (h : A → List X) (parts : (a : A) (rest : List A) → F (a ∷ rest) ≡ h a ++ F rest) where
  pub cut : (xs : List A) (i : ℕ) (a : A) → i < length xs → a ≡ get_or xs i a → F xs ≡ F (drop i xs) → F xs ≡ h a ++ F (drop (i + 1) xs)
  cut xs i a l is all = all ∙ ap F (at_place xs i a l is) ∙ parts a (drop (i + 1) xs)

  -- one part more has none
  pub none_more : (xs : List A) (i : ℕ) (a : A) → i < length xs → a ≡ get_or xs i a → F xs ≡ F (drop i xs) → h a ≡ [] → F xs ≡ F (drop (i + 1) xs)
  none_more xs i a l is all none = cut xs i a l is all ∙ ap (λ zs. zs ++ F (drop (i + 1) xs)) none

  -- the first is that of this part
  pub first_here : (f : X → ResolveFault) (e : ResolveFault) (xs : List A) (i : ℕ) (a : A) → i < length xs → a ≡ get_or xs i a → F xs ≡ F (drop i xs) → Refuses e f (h a) → Refuses e f (F xs)
  first_here f e xs i a l is all here = same_first f e (h a ++ F (drop (i + 1) xs)) (F xs) (sym (cut xs i a l is all)) (first_left f e (h a) (F (drop (i + 1) xs)) here)

-- the first of a file's faults, with the file's number
pub first_numbered : (f : ℕ → ℕ → ResolveFault) (e : ResolveFault) (i : ℕ) (os : List ℕ) → Refuses e (f i) os → Refuses e (λ (p : ℕ × ℕ). f p.0 p.1) (map (λ o. (i, o)) os)
first_numbered f e i [] (inl h) = inl h
first_numbered f e i [] (inr h) = cc
first_numbered f e i (o ∷ os) h = h
