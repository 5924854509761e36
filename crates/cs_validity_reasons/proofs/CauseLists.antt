-- Causes one after another, as they are found.
use Rattle.std.proofs.Common.{◌≡◌, ℕ, zero, suc, ◌<◌, ◌≤◌, List, [], ◌∷◌, ◌++◌, map, length, drop, get_or, refl, sym, ap, ◌∙◌, append_assoc, arith}
use Rattle.std.proofs.lemmas.List.{append-nil, drop_all}
use Rattle.cs_validity_reasons.specs.CauseLists.{each_from}
use Rattle.cs_validate.specs.Steps.{places_from}
use Rattle.cs_validity_reasons.specs.Led.{PlacedCause}

-- one more in front of the rest
pub regrouped : (all found new first rest : List PlacedCause) → all ≡ found ++ (first ++ rest) → new ≡ found ++ first → all ≡ new ++ rest
regrouped all found new first rest a n = a ∙ sym (append_assoc found first rest) ∙ ap (λ r. r ++ rest) (sym n)

module _ {X : Type 0} (g : ℕ → X → List PlacedCause) where
  next_told : (xs : List X) (k j : ℕ) (d : X) → k < length xs → each_from g j (drop k xs) ≡ g j (get_or xs k d) ++ each_from g (suc j) (drop (suc k) xs)
  next_told [] k j d l = absurd (omega (arith, l))
  next_told (x ∷ xs) zero j d l = refl
  next_told (x ∷ xs) (suc k) j d l = next_told xs k j d (omega (arith, l))

  -- one more is told
  pub one_told : (all found new : List PlacedCause) (xs : List X) (k j : ℕ) (d : X) → k < length xs → all ≡ found ++ each_from g j (drop k xs) → new ≡ found ++ g j (get_or xs k d)
      → all ≡ new ++ each_from g (suc j) (drop (suc k) xs)
  one_told all found new xs k j d l a n = regrouped all found new (g j (get_or xs k d)) (each_from g (suc j) (drop (suc k) xs)) (a ∙ ap (λ r. found ++ r) (next_told xs k j d l)) n

  -- all are told
  pub told_out : (all found : List PlacedCause) (xs : List X) (k j : ℕ) → length xs ≤ k → all ≡ found ++ each_from g j (drop k xs) → found ≡ all
  told_out all found xs k j l a = sym (a ∙ ap (λ ys. found ++ each_from g j ys) (drop_all k xs l) ∙ append-nil found)

pub mapped_told : {X Y : Type 0} (g : ℕ → Y → List PlacedCause) (h : X → Y) (j : ℕ) (xs : List X) → each_from g j (map h xs) ≡ each_from (λ k x. g k (h x)) j xs
mapped_told g h j [] = refl
mapped_told g h j (x ∷ xs) = ap (λ r. g j (h x) ++ r) (mapped_told g h (suc j) xs)

pub places_split : {X : Type 0} (xs : List X) (k p : ℕ) → k < length xs → places_from p (drop k xs) ≡ p ∷ places_from (suc p) (drop (suc k) xs)
places_split [] k p l = absurd (omega (arith, l))
places_split (x ∷ xs) zero p l = refl
places_split (x ∷ xs) (suc k) p l = places_split xs k p (omega (arith, l))
