-- Whether some part of a list is as it is asked for, one part after another.
use Rattle.std.proofs.Common.{◌≡◌, ℕ, ◌+◌, ◌<◌, ◌≤◌, Bool, true, false, ◌||◌, List, [], ◌∷◌, drop, length, get_or, sym, ap, ◌∙◌}
use Rattle.cs_embeddings.proofs.Walks.{at_place, drop_all}

-- F is whether some element is so, each by `own`
module _ {A : Type 0} (F : List A → Bool) (own : A → Bool) (parts : (a : A) (rest : List A) → F (a ∷ rest) ≡ (own a || F rest)) (xs : List A) (i : ℕ) (all : F xs ≡ F (drop i xs)) where
  cut : (a : A) → i < length xs → a ≡ get_or xs i a → F xs ≡ (own a || F (drop (i + 1) xs))
  cut a l is = all ∙ ap F (at_place xs i a l is) ∙ parts a (drop (i + 1) xs)

  -- one more isn't
  pub none_more : (a : A) → i < length xs → a ≡ get_or xs i a → own a ≡ false → F xs ≡ F (drop (i + 1) xs)
  none_more a l is h = cut a l is ∙ ap (λ b. b || F (drop (i + 1) xs)) h

  -- one is
  pub one_here : (a : A) → i < length xs → a ≡ get_or xs i a → own a ≡ true → true ≡ F xs
  one_here a l is h = sym (cut a l is ∙ ap (λ b. b || F (drop (i + 1) xs)) h)

  -- none is
  pub none_at_all : F [] ≡ false → length xs ≤ i → false ≡ F xs
  none_at_all empty l = sym (all ∙ ap F (drop_all xs i l) ∙ empty)
