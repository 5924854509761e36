-- The lowest number first.
use Rattle.std.proofs.Common.{◌≡◌, ℕ, suc, ◌<◌, ◌≤◌, List, [], ◌∷◌, ◌++◌, inl, inr, length, take, drop, get_or, sym, ap, subst, arith}
use Rattle.std.proofs.Math.Seq.{drop-cons}
use Rattle.std.specs.List.{All}
use Rattle.cs_graph.specs.Chains.{On}
use Rattle.cs_graph.specs.Graph.{IsLowestFirst}
use Rattle.cs_graph.proofs.Places.{on_split, on_take, on_drop, all_on}

pub lowest_turned : (xs : List ℕ) (k : ℕ) → k < length xs → All (λ n. get_or xs k 0 ≤ n) xs → IsLowestFirst (drop k xs ++ take k xs)
lowest_turned xs k inside all =
    let rest = drop (suc k) xs in
    let one = λ (m : ℕ) (o : On m (rest ++ take k xs)). all_on (λ n. get_or xs k 0 ≤ n) xs m all (elim (on_split m rest (take k xs) o) as (λ _. On m xs) [ inl a ↦ on_drop m (suc k) xs a | inr b ↦ on_take m k xs b ]) in
    subst IsLowestFirst (ap (λ l. l ++ take k xs) (sym (drop-cons xs k 0 inside))) one

pub lowest_none : (xs : List ℕ) → length xs ≡ 0 → IsLowestFirst xs
lowest_none [] e = tt
lowest_none (x ∷ xs) e = absurd (omega (arith, e))
