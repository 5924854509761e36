-- A list copied, one element after another.
use Rattle.std.proofs.Common.{◌≡◌, ℕ, ◌+◌, ◌<◌, ◌≤◌, List, [], ◌∷◌, ◌++◌, map, take, length, get_or, sym, ap, ap₂, ◌∙◌}
use Rattle.std.proofs.lemmas.List.{map-append, take_more, take_all}

-- one more is copied
pub copied_more : {X Z : Type 0} (view : X → Z) (xs : List X) (i : ℕ) (x : X) → i < length xs → x ≡ get_or xs i x → (ys zs : List X) (y : X) → zs ≡ ys ++ y ∷ []
    → map view ys ≡ map view (take i xs) → view y ≡ view x → map view zs ≡ map view (take (i + 1) xs)
copied_more view xs i x l is ys zs y grown before same =
    ap (map view) grown
    ∙ map-append view ys (y ∷ [])
    ∙ ap₂ (λ zs z. zs ++ z ∷ []) before same
    ∙ sym (ap (map view) (take_more xs i x l ∙ ap (λ z. take i xs ++ z ∷ []) (sym is)) ∙ map-append view (take i xs) (x ∷ []))

-- all are
pub all_copied : {X Z : Type 0} (view : X → Z) (xs : List X) (i : ℕ) → length xs ≤ i → (ys : List X) → map view ys ≡ map view (take i xs) → map view ys ≡ map view xs
all_copied view xs i past ys before = before ∙ ap (map view) (take_all i xs past)
