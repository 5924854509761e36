-- Sums over the parts of a list.
use Rattle.std.proofs.Common.{◌≡◌, ℕ, ◌+◌, ◌<◌, ◌≤◌, List, [], ◌∷◌, ◌++◌, take, drop, length, get_or, sym, ap, ◌∙◌, arith}
use Rattle.std.proofs.lemmas.List.{take-append-drop}
use Rattle.cs_resolve.proofs.Refusals.{at_place}

-- what was counted, and one part more, is within the whole
pub within : {X : Type 0} (F : List X → ℕ) → ((xs ys : List X) → F (xs ++ ys) ≡ F xs + F ys) → (xs : List X) (i : ℕ) (x : X) → i < length xs → x ≡ get_or xs i x → F (take i xs) + F (x ∷ []) ≤ F xs
within F joins xs i x l is =
    let whole = ap F (sym (take-append-drop i xs)) ∙ joins (take i xs) (drop i xs) in
    let rest = ap F (at_place xs i x l is) ∙ joins (x ∷ []) (drop (i + 1) xs) in
    omega (arith, whole, rest)
