-- More marks tell no less, and marks tell the same in every order.
use Rattle.std.proofs.Common.{◌≡◌, ℕ, ◌<◌, ◌+◌, ⊎_elim, List, [], ◌∷◌, ◌++◌, ℤ, Some, length, take, get_or, subst}
use Rattle.std.specs.Prelude.{slice_get}
use Rattle.std.specs.List.{AllByRecursion as Each}
use Rattle.std.specs.List.Sorted.{IsPermutation}
use Rattle.cs_document.proofs.Maps.{take_at}
use Rattle.std.proofs.lemmas.List.Elements.{All-from_recursion, recursion_from_All}
use Rattle.std.proofs.lemmas.List.Sorted.{All-permutation, IsPermutation-sym}
use Rattle.cs_document.specs.Opened.{Opened, a_null, a_boolean, an_integer, a_text, a_list, an_object}
use Rattle.cs_rules.specs.Alike.{Compared, AreAlike, IsToldBy, HasMore}
use Rattle.cs_rules.specs.Sharing.{AreToldBy}
use Rattle.cs_rules.specs.Steps.{Step}
use Rattle.cs_rules.proofs.Lists.{got_push}

-- scalars that these marks don't tell apart aren't by those
abbrev pub TellMore : Compared → Compared → Type 0
TellMore n m = (x y : Opened ℕ) → AreAlike n x y → AreAlike m x y

tell_more : (m n : Compared) → ((P : List ℕ → Type 0) → Each P n.texts → Each P m.texts) → ((P : ℤ → Type 0) → Each P n.integers → Each P m.integers)
    → ((P : ℕ → Type 0) → Each P n.lengths → Each P m.lengths) → TellMore n m
tell_more m n ts zs ls a_null a_null h = tt
tell_more m n ts zs ls (a_boolean b) (a_boolean c) h = h
tell_more m n ts zs ls (an_integer z) (an_integer w) h = zs _ h
tell_more m n ts zs ls (a_text s) (a_text t) h = (ts _ h.0, ls _ h.1)
tell_more m n ts zs ls a_null (a_boolean c) h = absurd h
tell_more m n ts zs ls a_null (an_integer w) h = absurd h
tell_more m n ts zs ls a_null (a_text t) h = absurd h
tell_more m n ts zs ls a_null (a_list v) h = absurd h
tell_more m n ts zs ls a_null (an_object v) h = absurd h
tell_more m n ts zs ls (a_boolean b) a_null h = absurd h
tell_more m n ts zs ls (a_boolean b) (an_integer w) h = absurd h
tell_more m n ts zs ls (a_boolean b) (a_text t) h = absurd h
tell_more m n ts zs ls (a_boolean b) (a_list v) h = absurd h
tell_more m n ts zs ls (a_boolean b) (an_object v) h = absurd h
tell_more m n ts zs ls (an_integer z) a_null h = absurd h
tell_more m n ts zs ls (an_integer z) (a_boolean c) h = absurd h
tell_more m n ts zs ls (an_integer z) (a_text t) h = absurd h
tell_more m n ts zs ls (an_integer z) (a_list v) h = absurd h
tell_more m n ts zs ls (an_integer z) (an_object v) h = absurd h
tell_more m n ts zs ls (a_text s) a_null h = absurd h
tell_more m n ts zs ls (a_text s) (a_boolean c) h = absurd h
tell_more m n ts zs ls (a_text s) (an_integer w) h = absurd h
tell_more m n ts zs ls (a_text s) (a_list v) h = absurd h
tell_more m n ts zs ls (a_text s) (an_object v) h = absurd h
tell_more m n ts zs ls (a_list v) y h = absurd h
tell_more m n ts zs ls (an_object v) y h = absurd h

front : {X : Type 0} (P : X → Type 0) (xs more : List X) → Each P (xs ++ more) → Each P xs
front P [] more h = tt
front P (x ∷ xs) more h = (h.0, front P xs more h.1)

pub more_tell : (m n : Compared) → HasMore m n → TellMore n m
more_tell m n h =
    tell_more m n (λ P each. front P m.texts h.0 (subst (Each P) h.3 each)) (λ P each. front P m.integers h.1 (subst (Each P) h.4 each))
    (λ P each. front P m.lengths h.2 (subst (Each P) h.5 each))

shuffled : {X : Type 0} (P : X → Type 0) (xs ys : List X) → IsPermutation xs ys → Each P ys → Each P xs
shuffled P xs ys p each = recursion_from_All P xs (All-permutation P ys xs (IsPermutation-sym xs ys p) (All-from_recursion P ys each))

pub shuffled_tell : (m n : Compared) → IsPermutation m.texts n.texts → IsPermutation m.integers n.integers → IsPermutation m.lengths n.lengths → TellMore n m
shuffled_tell m n p q r =
    tell_more m n (λ P each. shuffled P m.texts n.texts p each) (λ P each. shuffled P m.integers n.integers q each) (λ P each. shuffled P m.lengths n.lengths r each)

-- what these marks tell, those tell too
pub told_more : (step : Step) (m n : Compared) → TellMore n m → IsToldBy step m → IsToldBy step n
told_more step m n more told here inside inside' d d' x x' is is' like = told here inside inside' d d' x x' is is' (more x x' like)

module _ {R : Type 0} (step : R → Step) where
  pub all_told_more : (rules : List R) (m n : Compared) → TellMore n m → AreToldBy step rules m → AreToldBy step rules n
  all_told_more rules m n more told r rule there = told_more (step rule) m n more (told r rule there)

  -- a rule more is told
  pub next_told : (rules : List R) (i : ℕ) (m n : Compared) (x : R) → i < length rules → x ≡ get_or rules i x → HasMore m n → AreToldBy step (take i rules) m → IsToldBy (step x) n → AreToldBy step (take (i + 1) rules) n
  next_told rules i m n x l is more told one r rule there = ⊎_elim
      (λ (a : (r < length (take i rules)) × (slice_get (take i rules) r ≡ Some rule)). told_more (step rule) m n (more_tell m n more) (told r rule a.1))
      (λ (a : (r ≡ length (take i rules)) × (x ≡ rule)). subst (λ y. IsToldBy (step y) n) a.1 one)
      (got_push (take i rules) x rule r (subst (λ xs. slice_get xs r ≡ Some rule) (take_at rules i x l is) there))
