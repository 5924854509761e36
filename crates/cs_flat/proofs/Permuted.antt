-- Lists in another order.
use Rattle.std.proofs.Common.{◌≡◌, ℕ, Bool, true, false, if◌then◌else◌, List, ◌++◌, eqb, append_assoc, refl, sym, ap, ◌∙◌, subst₂}
use Rattle.std.specs.List.{list_all, sum_by}
use Rattle.std.specs.List.Sorted.{IsPermutation}
use Rattle.std.proofs.lemmas.List.Folds.{sum_by-zero}
use Rattle.std.proofs.lemmas.List.Sorted.{IsPermutation-append_comm, IsPermutation-append_left, IsPermutation-append_right, sum_by-IsPermutation}

module _ {A : Type 0} (p : A → Bool) where
  abbrev failures : A → ℕ
  failures x = if p x then 0 else 1

  abbrev no_failure : Bool → Bool
  no_failure b = eqb (if b then 0 else 1) 0

  told : (b : Bool) → no_failure b ≡ b
  told true = refl
  told false = refl

  by_sum : (xs : List A) → list_all p xs ≡ eqb (sum_by failures xs) 0
  by_sum xs = ap (λ q. list_all q xs) (λ i x. sym (told (p x)) i) ∙ sym (sum_by-zero failures xs)

  -- a list and its permutation pass a test alike
  pub list_all-IsPermutation : (xs ys : List A) → IsPermutation xs ys → list_all p xs ≡ list_all p ys
  list_all-IsPermutation xs ys same = by_sum xs ∙ ap (λ n. eqb n 0) (sym (sum_by-IsPermutation failures xs ys same)) ∙ sym (by_sum ys)

module _ {A : Type 0} where
  pub turned : (as' bs cs : List A) → IsPermutation (as' ++ (bs ++ cs)) (bs ++ (as' ++ cs))
  turned as' bs cs = subst₂ IsPermutation (append_assoc as' bs cs) (append_assoc bs as' cs) (IsPermutation-append_left cs (as' ++ bs) (bs ++ as') (IsPermutation-append_comm as' bs))

  pub paired : (as' bs cs ds : List A) → IsPermutation ((as' ++ bs) ++ (cs ++ ds)) ((as' ++ cs) ++ (bs ++ ds))
  paired as' bs cs ds = subst₂ IsPermutation (sym (append_assoc as' bs (cs ++ ds))) (sym (append_assoc as' cs (bs ++ ds))) (IsPermutation-append_right as' _ _ (turned bs cs ds))
