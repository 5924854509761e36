-- The text at a place of a list, and the front that ends with it.
use Rattle.std.proofs.Common.{◌≡◌, ℕ, ◌+◌, ◌<◌, List, [], ◌∷◌, ◌++◌, Some, length, get_or, map, take, slice_get, ap, ◌∙◌}
use Rattle.std.proofs.lemmas.List.{length-map, get_or-map, take_more}
use Rattle.std.proofs.lemmas.Option.{slice_get-get_or}

module _ {X : Type 0} (text : X → List ℕ) (xs : List X) (i : ℕ) (d : X) (lt : i < length xs) where
  pub inside : i < length (map text xs)
  inside = simp length-map lt

  pub at_place : get_or (map text xs) i (text d) ≡ text (get_or xs i d)
  at_place = get_or-map text xs i d (text d) lt

  pub there : slice_get (map text xs) i ≡ Some (text (get_or xs i d))
  there = slice_get-get_or (map text xs) i (text d) inside ∙ ap Some at_place

  pub one_more : take (i + 1) (map text xs) ≡ take i (map text xs) ++ text (get_or xs i d) ∷ []
  one_more = take_more (map text xs) i (text d) inside ∙ ap (λ s. take i (map text xs) ++ s ∷ []) at_place
