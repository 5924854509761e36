-- Elements of a list that are changed one by one.
use Rattle.std.proofs.Common.{◌≡◌, ℕ, zero, suc, ◌+◌, ◌<◌, ◌≤◌, Bool, List, [], ◌∷◌, ◌++◌, ◌&&◌, map, take, drop, length, get_or, set, refl, ap, ap₂, ◌∙◌, arith, add-one}
use Rattle.std.specs.List.{list_all}
use Rattle.std.proofs.lemmas.List.{append-nil, take_all, drop_all}
use Rattle.cs_package.specs.View.{expressions_of}
use Rattle.cs_package.specs.Expression.{Expression}
use Rattle.cs_package.specs.Expression as cue
use Rattle.cs_resolve.specs.Resolved.{read_opened, all_opened}

-- the first i of ys are seen changed by g, and the others as they were; and so with one more
module _ {X Y : Type 0} (f : X → Y) (g : Y → Y) where
  abbrev pub IsChanged : List X → List X → ℕ → Type 0
  IsChanged xs ys i = map f xs ≡ map g (map f (take i ys)) ++ map f (drop i ys)

  changed : (xs ys : List X) (i : ℕ) (old new : X) → i < length xs → old ≡ get_or xs i old → f new ≡ g (f old) → IsChanged xs ys i → IsChanged (set xs i new) ys (suc i)
  changed [] ys i old new l is step h = absurd (omega arith)
  changed (x ∷ xs) [] zero old new l is step h = cc
  changed (x ∷ xs) [] (suc i) old new l is step h = cc
  changed (x ∷ xs) (y ∷ ys) zero old new l is step h = let first : f x ≡ f y = cc in let rest : map f xs ≡ map f ys = cc in ap₂ (λ z zs. z ∷ zs) (step ∙ ap (λ z. g (f z)) is ∙ ap g first) rest
  changed (x ∷ xs) (y ∷ ys) (suc i) old new l is step h =
      let first : f x ≡ g (f y) = cc in
      let rest : IsChanged xs ys i = cc in
      ap₂ (λ z zs. z ∷ zs) first (changed xs ys i old new (omega arith) is step rest)

  pub one_changed : (xs ys : List X) (i : ℕ) (old new : X) → i < length xs → old ≡ get_or xs i old → f new ≡ g (f old) → IsChanged xs ys i → IsChanged (set xs i new) ys (i + 1)
  one_changed xs ys i old new l is step h = rw add-one (changed xs ys i old new l is step h)

  pub all_changed : (xs ys : List X) (i : ℕ) → length ys ≤ i → IsChanged xs ys i → map f xs ≡ map g (map f ys)
  all_changed xs ys i end h = h ∙ ap₂ (λ us vs. map g (map f us) ++ map f vs) (take_all i ys end) (drop_all i ys end) ∙ append-nil (map g (map f ys))

-- a test that each passes as before
pub same_test : {X : Type 0} (p : X → Bool) (xs : List X) (i : ℕ) (old new : X) → old ≡ get_or xs i old → i < length xs → p new ≡ p old → list_all p (set xs i new) ≡ list_all p xs
same_test p [] i old new is l same = absurd (omega arith)
same_test p (x ∷ xs) zero old new is l same = ap (λ b. b && list_all p xs) (same ∙ ap p is)
same_test p (x ∷ xs) (suc i) old new is l same = ap (λ b. p x && b) (same_test p xs i old new is (omega arith) same)

-- what is left of a list that was lent
pub lent : {X : Type 0} (n : ℕ) (xs ys : List X) → length ys ≤ length xs → length xs ≤ n → take n (xs ++ drop (length xs) ys) ≡ xs
lent n xs ys le within = ap (λ zs. take n (xs ++ zs)) (drop_all (length xs) ys le) ∙ ap (take n) (append-nil xs) ∙ take_all n xs within

pub all_opened_of : (es : List Expression) → expressions_of (map read_opened es) ≡ all_opened (expressions_of es)
all_opened_of [] = refl
all_opened_of (e ∷ es) = ap (cue.expression (read_opened e)) (all_opened_of es)
