-- Values, each once, where it comes first.
use Rattle.std.proofs.Common.{◌≡◌, List, [], ◌∷◌, ◌++◌, filter, Bool, true, false, not, ◌&&◌, ◌||◌, refl, sym, ap, ◌∙◌, if◌then◌else◌}
use Rattle.std.specs.List.{list_all, list_any, AllByRecursion as Each}
use Rattle.std.proofs.lemmas.List.Elements.{filter-append}
use Rattle.cs_document.proofs.Each.{all_same}
use Rattle.cs_compile.specs.Translation.{firsts}

pub not-all : {X : Type 0} (f : X → Bool) (xs : List X) → list_any f xs ≡ not (list_all (λ x. not (f x)) xs)
not-all f [] = refl
not-all f (x ∷ xs) = ap (λ b. f x || b) (not-all f xs) ∙ turned (f x) (list_all (λ y. not (f y)) xs)
  where
    turned : (a b : Bool) → (a || not b) ≡ not (not a && b)
    turned true b = refl
    turned false b = refl

pub all_filter : {X : Type 0} (t a : X → Bool) (xs : List X) → list_all t (filter a xs) ≡ list_all (λ x. not (a x) || t x) xs
all_filter t a [] = refl
all_filter t a (x ∷ xs) = go (a x) (all_filter t a xs)
  where
    go : (b : Bool) → list_all t (filter a xs) ≡ list_all (λ y. not (a y) || t y) xs → list_all t (if b then x ∷ filter a xs else filter a xs) ≡ ((not b || t x) && list_all (λ y. not (a y) || t y) xs)
    go true r = ap (λ c. t x && c) r
    go false r = r

-- a test that is true of the same values alone
module _ {X : Type 0} (same : X → X → Bool) (alike : (x y : X) → same x y ≡ true → x ≡ y) where
  -- what x passes is passed by its equals, so that they may be left out
  without : (t : X → Bool) (x : X) (xs : List X) → (t x && list_all (λ y. not (not (same x y)) || t y) xs) ≡ (t x && list_all t xs)
  without t x xs = go (t x) refl
    where
      other : (b : Bool) (y : X) → same x y ≡ b → t x ≡ true → (not (not b) || t y) ≡ t y
      other true y e h = let one : x ≡ y = alike x y e in sym (ap t (sym one) ∙ h)
      other false y e h = refl

      each_other : (ys : List X) → t x ≡ true → Each (λ y. (not (not (same x y)) || t y) ≡ t y) ys
      each_other [] h = tt
      each_other (y ∷ ys) h = (other (same x y) y refl h, each_other ys h)

      go : (b : Bool) → t x ≡ b → (b && list_all (λ y. not (not (same x y)) || t y) xs) ≡ (b && list_all t xs)
      go true h = all_same _ _ xs (each_other xs h)
      go false h = refl

  -- each once is as good as each
  pub all_firsts : (t : X → Bool) (xs : List X) → list_all t (firsts same xs) ≡ list_all t xs
  all_firsts t [] = refl
  all_firsts t (x ∷ xs) =
      ap (λ b. t x && b) (all_filter t (λ y. not (same x y)) (firsts same xs))
      ∙ without t x (firsts same xs)
      ∙ ap (λ b. t x && b) (all_firsts t xs)

  pub any_firsts : (t : X → Bool) (xs : List X) → list_any t (firsts same xs) ≡ list_any t xs
  any_firsts t xs = not-all t (firsts same xs) ∙ ap not (all_firsts (λ x. not (t x)) xs) ∙ sym (not-all t xs)

-- what holds of each holds of those
pub each_filter : {X : Type 0} (a : X → Bool) (P : X → Type 0) (xs : List X) → Each P xs → Each P (filter a xs)
each_filter a P [] h = tt
each_filter a P (x ∷ xs) h = go (a x) (each_filter a P xs h.1)
  where
    go : (b : Bool) → Each P (filter a xs) → Each P (if b then x ∷ filter a xs else filter a xs)
    go true later = (h.0, later)
    go false later = later

pub each_firsts : {X : Type 0} (same : X → X → Bool) (P : X → Type 0) (xs : List X) → Each P xs → Each P (firsts same xs)
each_firsts same P [] h = tt
each_firsts same P (x ∷ xs) h = (h.0, each_filter (λ y. not (same x y)) P (firsts same xs) (each_firsts same P xs h.1))

-- one value more: it is last unless it was there
pub firsts-last : {X : Type 0} (same : X → X → Bool) → ((x y : X) → same x y ≡ same y x) → (xs : List X) (x : X) → firsts same (xs ++ x ∷ []) ≡ firsts same xs ++ (if list_any (same x) xs then [] else x ∷ [])
firsts-last same turned [] x = refl
firsts-last same turned (y ∷ xs) x =
    ap (λ zs. y ∷ filter (λ z. not (same y z)) zs) (firsts-last same turned xs x)
    ∙ ap (λ zs. y ∷ zs) (filter-append (λ z. not (same y z)) (firsts same xs) (if list_any (same x) xs then [] else x ∷ []) ∙ ap (λ zs. filter (λ z. not (same y z)) (firsts same xs) ++ zs) (last (same y x) (list_any (same x) xs) refl ∙ ap (λ b. if b || list_any (same x) xs then [] else x ∷ []) (turned y x)))
  where
    last : (b c : Bool) → same y x ≡ b → filter (λ z. not (same y z)) (if c then [] else x ∷ []) ≡ (if b || c then [] else x ∷ [])
    last true true e = refl
    last false true e = refl
    last true false e = rw e refl
    last false false e = rw e refl
