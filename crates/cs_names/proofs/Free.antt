-- The first number that makes a name free.
use Rattle.std.proofs.Common.{◌≡◌, ◌≢◌, ℕ, zero, suc, ◌+◌, ◌-◌, ◌<◌, ◌≤◌, Bool, true, false, ◌||◌, cond, List, Some, String, Global, refl, sym, ap, subst, ◌∙◌, inl, inr, arith}
use Rattle.std.proofs.lemmas.Bool.Decides.{eqb_tells}
use Rattle.std.proofs.lemmas.Slice.Eq.{bytes_eq-Decides}
use Rattle.std.specs.BTreeMap as tree
use Rattle.std.specs.BTreeMap.{BTreeMap}
use Rattle.std.specs.Map.{update}
use Rattle.std.specs.Str.{bytes_eq}
use Rattle.cs_names.specs.Lifted.{is_defined, numbered, first_free, all_numbers}
use Rattle.cs_grammar.specs.Tree.{DefinitionTree}
use Rattle.cs_names.specs.Taken.{IsBehind, AreBehind, is_named, TellsTaken}
use Rattle.cs_names.specs.declared.taken.TakenNames.{TakenNames}

module _ (is_taken : List ℕ → Bool) (s : List ℕ) (all n : ℕ) (l : n ≤ all) where
  one_more : all + 1 - n ≡ suc (all - n)
  one_more = omega arith

  pub number_taken : is_taken (numbered s n) ≡ true → first_free is_taken s n (all + 1 - n) ≡ first_free is_taken s (n + 1) (all + 1 - (n + 1))
  unfolding first_free
  number_taken h =
      let rest : all - n ≡ all + 1 - (n + 1) = omega arith in
      ap (first_free is_taken s n) one_more ∙ ap (λ b. cond b (first_free is_taken s (n + 1) (all - n)) (numbered s n)) h ∙ ap (first_free is_taken s (n + 1)) rest

  pub number_free : is_taken (numbered s n) ≡ false → first_free is_taken s n (all + 1 - n) ≡ numbered s n
  unfolding first_free
  number_free h = ap (first_free is_taken s n) one_more ∙ ap (λ b. cond b (first_free is_taken s (n + 1) (all - n)) (numbered s n)) h

pub all_below : (n : ℕ) → n < 18446744073709551615 → n ≤ all_numbers
unfolding all_numbers
all_below n l = omega arith

-- the number 1
pub first_number : (is_taken : List ℕ → Bool) (s : List ℕ) → is_taken (numbered s 1) ≡ false → first_free is_taken s 1 all_numbers ≡ numbered s 1
first_number is_taken s h =
    let whole : all_numbers ≡ all_numbers + 1 - 1 = omega arith in
    ap (first_free is_taken s 1) whole ∙ number_free is_taken s all_numbers 1 (all_below 1 (omega arith)) h

module _ (is_taken : List ℕ → Bool) (s : List ℕ) where
  -- where the numbers from 1 to m are taken, the search goes on behind them
  goes_on : (m : ℕ) → m < all_numbers → ((k : ℕ) → 1 ≤ k → k ≤ m → is_taken (numbered s k) ≡ true)
      → first_free is_taken s 1 all_numbers ≡ first_free is_taken s (m + 1) (all_numbers + 1 - (m + 1))
  goes_on zero l h =
      let one : 1 ≡ zero + 1 = omega arith in
      let whole : all_numbers ≡ all_numbers + 1 - (zero + 1) = omega arith in
      ap (first_free is_taken s 1) whole ∙ ap (λ n. first_free is_taken s n (all_numbers + 1 - (zero + 1))) one
  goes_on (suc m) l h =
      let less : m < all_numbers = omega arith in
      let before = goes_on m less (λ k a b. h k a (omega arith)) in
      let next : m + 1 + 1 ≡ suc m + 1 = omega arith in
      before ∙ number_taken is_taken s all_numbers (m + 1) (omega arith) (h (m + 1) (omega arith) (omega arith)) ∙ ap (λ n. first_free is_taken s n (all_numbers + 1 - n)) next

  -- the search may begin where no number before is free
  pub begun : (n : ℕ) → n ≤ all_numbers → IsBehind is_taken s n → first_free is_taken s 1 all_numbers ≡ first_free is_taken s n (all_numbers + 1 - n)
  begun n l behind =
      let positive : 1 ≤ n = behind.first in
      let same : n - 1 + 1 ≡ n = omega (arith, positive) in
      goes_on (n - 1) (omega (arith, positive)) (λ k a b. behind.taken k a (omega (arith, positive))) ∙ ap (λ m. first_free is_taken s m (all_numbers + 1 - m)) same

  pub behind_one : IsBehind is_taken s 1
  behind_one = record { first = omega arith; taken = λ k a b. absurd (omega arith) }

  -- one number more
  pub behind_next : (n : ℕ) → IsBehind is_taken s n → is_taken (numbered s n) ≡ true → IsBehind is_taken s (n + 1)
  behind_next n behind h = record {
    first = omega arith;
    taken = λ k a b. elim (eqb_tells k n) [ inl is ↦ subst (λ m. is_taken (numbered s m) ≡ true) (sym is.1) h | inr other ↦ behind.taken k a (less k b other.1) ];
  }
    where
      less : (k : ℕ) → k < n + 1 → k ≢ n → k < n
      less k b other = omega arith

-- what is taken stays so where it grows
pub behind_more : (f g : List ℕ → Bool) → ((s : List ℕ) → f s ≡ true → g s ≡ true) → (s : List ℕ) (n : ℕ) → IsBehind f s n → IsBehind g s n
behind_more f g more s n behind = record { first = behind.first; taken = λ k a b. more (numbered s k) (behind.taken k a b) }

-- the same names by another function
pub told_same : (t : TakenNames) (all : List DefinitionTree) (f g : List ℕ → Bool) → ((s : List ℕ) → f s ≡ g s) → TellsTaken t all f → TellsTaken t all g
told_same t all f g same told = record {
  files = told.files;
  since = λ s. told.since s ∙ same s;
  numbers = λ s n at. behind_more (is_named all f) (is_named all g) (λ r h. sym (ap (λ b. is_defined all r || b) (same r)) ∙ h) s n (told.numbers s n at);
}

-- a name more is given
pub named_more : (all : List DefinitionTree) (given : List ℕ → Bool) (n s : List ℕ) → is_named all given s ≡ true → is_named all (λ r. given r || bytes_eq n r) s ≡ true
named_more all given n s h = by (is_defined all s) (given s) h
  where
    by : (a b : Bool) → (a || b) ≡ true → (a || (b || bytes_eq n s)) ≡ true
    by true b k = refl
    by false true k = refl
    by false false k = cc

-- a number is kept for a name
pub numbers_put : (f : List ℕ → Bool) (m n : BTreeMap (String Global) ℕ) (w : List ℕ) (k : ℕ)
    → ((s : List ℕ) → tree.get_by_text n s ≡ update bytes_eq (tree.get_by_text m) w (Some k) s) → AreBehind m f → IsBehind f w k → AreBehind n f
numbers_put f m n w k put before behind s j at = by (bytes_eq w s) refl (sym (put s) ∙ at)
  where
    by : (b : Bool) → bytes_eq w s ≡ b → cond b (Some k) (tree.get_by_text m s) ≡ Some j → IsBehind f s j
    by true e h = let same : w ≡ s = (bytes_eq-Decides w s).0 e in let number : k ≡ j = cc in subst (λ t. IsBehind f t j) same (subst (IsBehind f w) number behind)
    by false e h = before s j h
