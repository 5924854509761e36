-- Definitions that are gone, and those that are kept.
use Rattle.std.proofs.Common.{◌≡◌, ℕ, Bool, true, false, not, ◌&&◌, cond, List, [], ◌∷◌, ◌++◌, filter, length, refl, subst, ap, ◌∙◌}
use Rattle.cs_grammar.specs.Tree.{DefinitionTree, defined_name}
use Rattle.cs_plain.specs.Placed.{gone_if}
use Rattle.cs_plain.specs.References.{is_among}

pub gone_here : (bs cs : List (List ℕ)) (d : DefinitionTree) (k : List ℕ) → k ≡ defined_name d → is_among bs k ≡ true → is_among cs k ≡ false → k ∷ [] ≡ gone_if bs cs d
gone_here bs cs d k is before after =
    ap (λ s. s ∷ []) is ∙ by (is_among bs (defined_name d)) (is_among cs (defined_name d)) (subst (λ s. is_among bs s ≡ true) is before) (subst (λ s. is_among cs s ≡ false) is after)
  where
    by : (a b : Bool) → a ≡ true → b ≡ false → defined_name d ∷ [] ≡ cond (a && not b) (defined_name d ∷ []) []
    by true false h l = refl
    by true true h l = cc
    by false b h l = cc

-- one that wasn't referred to, or still is
pub not_gone : (bs cs : List (List ℕ)) (d : DefinitionTree) → (is_among bs (defined_name d) && not (is_among cs (defined_name d))) ≡ false → [] ≡ gone_if bs cs d
not_gone bs cs d h = by (is_among bs (defined_name d) && not (is_among cs (defined_name d))) h
  where
    by : (a : Bool) → a ≡ false → [] ≡ cond a (defined_name d ∷ []) []
    by true h = cc
    by false h = refl

pub filter_first : {A : Type 0} (f : A → Bool) (x : A) (xs : List A) → filter f (x ∷ xs) ≡ filter f (x ∷ []) ++ filter f xs
filter_first f x xs = by (f x)
  where
    by : (b : Bool) → cond b (x ∷ filter f xs) (filter f xs) ≡ cond b (x ∷ []) [] ++ filter f xs
    by true = refl
    by false = refl

pub nothing_left : {A : Type 0} (xs : List A) → length xs ≡ 0 → xs ≡ []
nothing_left [] e = refl
nothing_left (x ∷ xs) e = cc
