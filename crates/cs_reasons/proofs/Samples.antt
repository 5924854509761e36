-- Which causes are followed, and which of some alternatives is the closest, worked on samples.
use Rattle.std.proofs.Common.{◌≡◌, ℕ, zero, suc, ◌<◌, Bool, true, false, List, [], ◌∷◌, Option, Some, None, map, length, refl, sym, ap, ◌∙◌, arith}
use Rattle.std.specs.Prelude.{◌&&◌, nat_eq}
use Rattle.cs_table.specs.Judged.{AllVerdicts}
use Rattle.cs_reasons.specs.Costs.{Kept, none_kept, begun, with_cost, cost_below, first_least}
use Rattle.cs_reasons.specs.Reasons.{IsFollowed}
use Rattle.cs_reasons.proofs.Pairs.{same_pair}

-- causes by number: 0 and 1 are alternatives, 2 leads to a pair too, and 3 and all others are leaves
abbrev to : ℕ → Option (ℕ × ℕ)
to zero = Some (0, 1)
to (suc zero) = Some (0, 2)
to (suc (suc zero)) = Some (0, 3)
to (suc (suc (suc c))) = None

abbrev is_alternative : ℕ → Bool
is_alternative zero = true
is_alternative (suc zero) = true
is_alternative (suc (suc c)) = false

-- of the causes below 4 what is followed, where 9 says that no alternative holds
abbrev Follows : AllVerdicts → ℕ → Type 0
Follows chosen c = IsFollowed to (λ i r d. d < 4) is_alternative 9 chosen 1 0 c

-- the pair that the alternative 1 leads to is chosen, or one of another item with the same rule, which no cause leads to
abbrev of_item : ℕ → AllVerdicts
of_item i j q = nat_eq j i && nat_eq q 2

chosen_one : Follows (of_item 0) 1
chosen_one = IsFollowed.alternative (omega arith) refl refl refl

not_chosen : (c : ℕ) → Follows (of_item 0) c → c ≡ 0 → ⊥
not_chosen c (IsFollowed.other cause alone) e = let clash : true ≡ false = ap is_alternative (sym e) ∙ alone in cc
not_chosen c (IsFollowed.alternative {j = j} {q = q} cause is lead chose) e =
    let p = same_pair (0, 1) j q (ap to (sym e) ∙ lead) in
    let clash : false ≡ true = ap (λ x. of_item 0 x 1) p.0 ∙ ap (λ x. of_item 0 j x) p.1 ∙ chose in cc
not_chosen c (IsFollowed.unchosen cause is none) e = omega (arith, e)

-- the others are, leaves too
no_alternative : (c : ℕ) → c < 2 → Follows (of_item 0) (suc (suc c))
no_alternative c l = IsFollowed.other (omega arith) refl

-- that none holds is told where no alternative is chosen, and there alone
none_chosen : (d j q : ℕ) → is_alternative d ≡ true → to d ≡ Some (j, q) → of_item 1 j q ≡ false
none_chosen zero j q is lead = let p = same_pair (0, 1) j q lead in ap (λ x. of_item 1 x q) (sym p.0)
none_chosen (suc zero) j q is lead = let p = same_pair (0, 2) j q lead in ap (λ x. of_item 1 x q) (sym p.0)
none_chosen (suc (suc d)) j q is lead = cc

none_holds : Follows (of_item 1) 9
none_holds = IsFollowed.unchosen {c = 0} (omega arith) refl (λ d j q cause is lead. none_chosen d j q is lead)

one_is_chosen : (c : ℕ) → Follows (of_item 0) c → c ≡ 9 → ⊥
one_is_chosen c (IsFollowed.other cause alone) e = omega (arith, cause, e)
one_is_chosen c (IsFollowed.alternative cause is lead chose) e = omega (arith, cause, e)
one_is_chosen c (IsFollowed.unchosen cause is none) e = let clash : true ≡ false = none 1 0 2 (omega arith) refl refl in cc

-- and not of a pair that has no alternatives
has_none : (c : ℕ) → IsFollowed to (λ i r d. d ≡ 2) is_alternative 9 (of_item 1) 1 0 c → c ≡ 9 → ⊥
has_none c (IsFollowed.other cause alone) e = omega (arith, cause, e)
has_none c (IsFollowed.alternative cause is lead chose) e = omega (arith, cause, e)
has_none c (IsFollowed.unchosen cause is none) e = let clash : false ≡ true = ap is_alternative (sym cause) ∙ is in cc

-- ---- costs of pairs of three items and four rules

-- of the first and of the last item, which is begun twice
abbrev sample : Kept
sample = with_cost 2 1 5 (with_cost 2 0 5 (begun 2 (begun 2 (with_cost 0 3 7 (begun 0 (none_kept 3 4))))))

abbrev near : List (Option (ℕ × ℕ))
near = Some (0, 3) ∷ Some (2, 1) ∷ Some (2, 0) ∷ None ∷ []

-- what leads nowhere costs most
costs_are : map (cost_below sample) near ≡ 7 ∷ 5 ∷ 5 ∷ 65535 ∷ []
costs_are = refl

-- no more memory is taken than for two items
begun_once : length sample.costs ≡ 8
begun_once = refl

-- of two that cost the same the first is the closest
first_is_closest : first_least (cost_below sample) near ≡ Some (Some (2, 1), 5)
first_is_closest = refl

none_is_closest : first_least (cost_below sample) [] ≡ None
none_is_closest = refl
