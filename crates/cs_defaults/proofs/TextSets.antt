-- Sets of texts, and what is counted of labels.
use Rattle.std.proofs.Common.{◌≡◌, ℕ, ◌+◌, Bool, true, false, ◌||◌, ◌&&◌, nat_lt, cond, List, [], ◌∷◌, ◌++◌, count_by, refl, sym, ap, ap₂, ◌∙◌, zero-add, arith}
use Rattle.std.specs.Borrow.{Bor}
use Rattle.std.specs.BTreeSet.{BTreeSet, Updates, contains_by}
use Rattle.std.specs.Cmp.Lexicographic.{slice_cmp}
use Rattle.std.specs.List.{list_any}
use Rattle.std.specs.Ordering.{is_eq, nat_cmp}
use Rattle.std.specs.Str.{bytes_eq}
use Rattle.std.proofs.lemmas.Bool.Decides.{nat_tests}
use Rattle.std.proofs.lemmas.List.Folds.{list_any-append}
use Rattle.std.proofs.lemmas.List.Sums.{sum_by-append}
use Rattle.std.proofs.lemmas.Cmp.{nat_list_eq_equiv}
use Rattle.std.proofs.lemmas.Map.Text.{is_eq-slice_cmp}
use Rattle.std.proofs.lemmas.Slice.Eq.{bytes_eq-Decides}
use Rattle.cs_defaults.specs.Absent.{is_repeated}
use Rattle.cs_defaults.specs.Checks.{TellsSeen}

abbrev pub has_text : List ℕ → BTreeSet (Bor (List ℕ)) → Bool
has_text t s = contains_by (λ k. slice_cmp nat_cmp t k.now) s

-- k is put into the set
abbrev pub Puts : BTreeSet (Bor (List ℕ)) → BTreeSet (Bor (List ℕ)) → Bor (List ℕ) → Type 0
Puts s n k = Updates (λ (x y : Bor (List ℕ)). slice_cmp nat_cmp x.now y.now) s n k true

pub or_nothing : (b : Bool) → (b || false) ≡ b
or_nothing true = refl
or_nothing false = refl

or_true : (b : Bool) → (b || true) ≡ true
or_true true = refl
or_true false = refl

pub has_text_put : (t : List ℕ) (s n : BTreeSet (Bor (List ℕ))) (k : Bor (List ℕ)) → Puts s n k → has_text t n ≡ (has_text t s || bytes_eq k.now t)
has_text_put t s n k put = put.0 (record { ref_ptr = k.ref_ptr; now = t }) ∙ by (is_eq (slice_cmp nat_cmp k.now t)) (is_eq-slice_cmp k.now t)
  where
    by : (b : Bool) → b ≡ bytes_eq k.now t → cond b true (has_text t s) ≡ (has_text t s || bytes_eq k.now t)
    by true same = sym (or_true (has_text t s)) ∙ ap (λ b. has_text t s || b) same
    by false other = sym (or_nothing (has_text t s)) ∙ ap (λ b. has_text t s || b) other

-- ---- labels that were seen

counted_cons : (t l : List ℕ) (ls : List (List ℕ)) → count_by (bytes_eq t) (l ∷ ls) ≡ cond (bytes_eq t l) 1 0 + count_by (bytes_eq t) ls
counted_cons t l ls = sum_by-append (λ x. cond (bytes_eq t x) 1 0) (l ∷ []) ls ∙ ap (λ n. n + count_by (bytes_eq t) ls) (zero-add (cond (bytes_eq t l) 1 0))

counted_push : (t k : List ℕ) (ls : List (List ℕ)) → count_by (bytes_eq t) (ls ++ k ∷ []) ≡ count_by (bytes_eq t) ls + cond (bytes_eq t k) 1 0
counted_push t k ls = sum_by-append (λ x. cond (bytes_eq t x) 1 0) ls (k ∷ []) ∙ ap (λ n. count_by (bytes_eq t) ls + n) (zero-add (cond (bytes_eq t k) 1 0))

some_counted : (n : ℕ) → true ≡ nat_lt 0 (1 + n)
some_counted n = grind (arith, nat_tests)

none_counted : (n : ℕ) (b : Bool) → b ≡ nat_lt 0 n → b ≡ nat_lt 0 (0 + n)
none_counted n b h = rw (zero-add n) h

-- a text is there just where it is counted
any_counted : (t : List ℕ) (ls : List (List ℕ)) → list_any (bytes_eq t) ls ≡ nat_lt 0 (count_by (bytes_eq t) ls)
any_counted t [] = refl
any_counted t (l ∷ ls) = by (bytes_eq t l) (any_counted t ls) ∙ ap (nat_lt 0) (sym (counted_cons t l ls))
  where
    by : (b : Bool) → list_any (bytes_eq t) ls ≡ nat_lt 0 (count_by (bytes_eq t) ls) → (b || list_any (bytes_eq t) ls) ≡ nat_lt 0 (cond b 1 0 + count_by (bytes_eq t) ls)
    by true h = some_counted (count_by (bytes_eq t) ls)
    by false h = none_counted (count_by (bytes_eq t) ls) (list_any (bytes_eq t) ls) h

one_more : (n : ℕ) → nat_lt 1 (n + 1) ≡ (nat_lt 1 n || nat_lt 0 n)
one_more n = grind (arith, nat_tests)

none_more : (n : ℕ) → nat_lt 1 (n + 0) ≡ nat_lt 1 n
none_more n = grind (arith, nat_tests)

repeated_push : (t k : List ℕ) (ls : List (List ℕ)) → is_repeated t (ls ++ k ∷ []) ≡ (is_repeated t ls || (bytes_eq t k && list_any (bytes_eq t) ls))
repeated_push t k ls = ap (nat_lt 1) (counted_push t k ls) ∙ by (bytes_eq t k)
  where
    by : (b : Bool) → nat_lt 1 (count_by (bytes_eq t) ls + cond b 1 0) ≡ (is_repeated t ls || (b && list_any (bytes_eq t) ls))
    by true = one_more (count_by (bytes_eq t) ls) ∙ ap (λ b. is_repeated t ls || b) (sym (any_counted t ls))
    by false = none_more (count_by (bytes_eq t) ls) ∙ sym (or_nothing (is_repeated t ls))

seen_push : (t k : List ℕ) (ls : List (List ℕ)) → list_any (bytes_eq t) (ls ++ k ∷ []) ≡ (list_any (bytes_eq t) ls || bytes_eq k t)
seen_push t k ls = list_any-append (bytes_eq t) ls (k ∷ []) ∙ ap (λ b. list_any (bytes_eq t) ls || b) (or_nothing (bytes_eq t k) ∙ nat_list_eq_equiv.symm t k)

-- whether k is there, asked by another text
there_too : (t k : List ℕ) (ls : List (List ℕ)) (there : Bool) → list_any (bytes_eq k) ls ≡ there → (bytes_eq t k && list_any (bytes_eq t) ls) ≡ (bytes_eq t k && there)
there_too t k ls there h = by (bytes_eq t k) refl
  where
    by : (b : Bool) → bytes_eq t k ≡ b → (b && list_any (bytes_eq t) ls) ≡ (b && there)
    by true same = ap (λ s. list_any (bytes_eq s) ls) ((bytes_eq-Decides t k).0 same) ∙ h
    by false other = refl

and_true : (b : Bool) → (b && true) ≡ b
and_true true = refl
and_true false = refl

pub and_false : (b : Bool) → (b && false) ≡ false
and_false true = refl
and_false false = refl

module _ (seen repeated now : BTreeSet (Bor (List ℕ))) (ls : List (List ℕ)) (k : Bor (List ℕ)) (told : TellsSeen seen repeated ls) (puts : Puts seen now k) where
  -- a label for the first time
  pub seen_first : has_text k.now seen ≡ false → TellsSeen now repeated (ls ++ k.now ∷ [])
  seen_first new = record {
    once = λ t. has_text_put t seen now k puts ∙ ap (λ b. b || bytes_eq k.now t) (told.once t) ∙ sym (seen_push t k.now ls);
    again = λ t. told.again t ∙ sym (repeated_push t k.now ls ∙ ap (λ b. is_repeated t ls || b) (there_too t k.now ls false (sym (told.once k.now) ∙ new) ∙ and_false (bytes_eq t k.now)) ∙ or_nothing (is_repeated t ls));
  }

  -- and again
  pub seen_again : has_text k.now seen ≡ true → (after : BTreeSet (Bor (List ℕ))) → Puts repeated after k → TellsSeen now after (ls ++ k.now ∷ [])
  seen_again old after puts_again = record {
    once = λ t. has_text_put t seen now k puts ∙ ap (λ b. b || bytes_eq k.now t) (told.once t) ∙ sym (seen_push t k.now ls);
    again = λ t. has_text_put t repeated after k puts_again ∙ ap₂ (λ a b. a || b) (told.again t) (nat_list_eq_equiv.symm k.now t) ∙ sym (repeated_push t k.now ls ∙ ap (λ b. is_repeated t ls || b) (there_too t k.now ls true (sym (told.once k.now) ∙ old) ∙ and_true (bytes_eq t k.now)));
  }
