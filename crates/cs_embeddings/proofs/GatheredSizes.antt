-- How few declarations are left where those of one label are put together: one of 64 at least, since so many of a label are put together at most.
use Rattle.std.proofs.Common.{◌≡◌, ℕ, suc, ◌+◌, ◌*◌, ◌/◌, ◌≤◌, Bool, true, false, ◌&&◌, ◌||◌, not, cond, List, [], ◌∷◌, ◌++◌, length, filter, refl, sym, ap, ◌∙◌, subst, nat_le, arith}
use Rattle.std.proofs.lemmas.Bool.{and_parts, and_from, both_ways}
use Rattle.std.proofs.lemmas.Bool.Decides.{nat_tests}
use Rattle.std.proofs.lemmas.List.Folds.{list_any-append}
use Rattle.std.proofs.lemmas.Slice.Eq.{bytes_eq-Decides}
use Rattle.std.specs.List.{list_any}
use Rattle.std.specs.Str.{bytes_eq}
use Rattle.cs_grammar.specs.Tree.{DefinitionTree}
use Rattle.cs_embeddings.specs.Alternatives.{Brought}
use Rattle.cs_embeddings.specs.Gathered.{stays_alone, is_of, those_of, values_of, most_gathered, gathers, is_gathered, together, gathered_behind, gathered}
use Rattle.cs_embeddings.specs.United.{unites}

from_not : (b : Bool) → not b ≡ true → b ≡ false
from_not true h = absurd (both_ways false refl h)
from_not false h = refl

from_no : (b : Bool) → not b ≡ false → b ≡ true
from_no true h = refl
from_no false h = absurd (both_ways true h refl)

only_left : (a b : Bool) → (a && b) ≡ false → a ≡ true → b ≡ false
only_left a true h k = absurd (both_ways true (ap (λ x. x && true) (sym k) ∙ h) refl)
only_left a false h k = refl

only_right : (a b : Bool) → (a || b) ≡ true → a ≡ false → b ≡ true
only_right true b h k = absurd (both_ways true k refl)
only_right false b h k = h

at_most : (n m : ℕ) → nat_le n m ≡ true → n ≤ m
at_most n m h = grind (arith, nat_tests)

-- ---- filters

none_kept : (xs : List Brought) → length (filter (λ x. false) xs) ≡ 0
none_kept [] = refl
none_kept (x ∷ xs) = none_kept xs

no_longer : (b : Bool) (x : Brought) (xs : List Brought) → length xs ≤ length (cond b (x ∷ xs) xs)
no_longer true x xs = omega arith
no_longer false x xs = omega arith

-- what p keeps, q or r keeps
kept_by_either : (p q r : Brought → Bool) → ((x : Brought) → p x ≡ true → q x ≡ false → r x ≡ true) → (xs : List Brought)
    → length (filter p xs) ≤ length (filter q xs) + length (filter r xs)
kept_by_either p q r either [] = omega arith
kept_by_either p q r either (x ∷ xs) = by (p x) (q x) (r x) (either x) (kept_by_either p q r either xs)
  where
    by : (a b c : Bool) → (a ≡ true → b ≡ false → c ≡ true) → length (filter p xs) ≤ length (filter q xs) + length (filter r xs)
        → length (cond a (x ∷ filter p xs) (filter p xs)) ≤ length (cond b (x ∷ filter q xs) (filter q xs)) + length (cond c (x ∷ filter r xs) (filter r xs))
    by true true true h later = omega arith
    by true true false h later = omega arith
    by true false true h later = omega arith
    by true false false h later = absurd (both_ways false refl (h refl refl))
    by false true true h later = omega arith
    by false true false h later = omega arith
    by false false true h later = omega arith
    by false false false h later = omega arith

-- ---- those that are left

module _ (ds : List DefinitionTree) (all : List Brought) where
  -- a declaration that isn't put together with one of those before it
  abbrev is_left : List Brought → Brought → Bool
  is_left before x = not (is_gathered ds all x && list_any (is_of x.label.text) before)

  -- so many are counted by the declarations that are left, at least
  abbrev left_in : List Brought → List Brought → ℕ
  left_in before rest = length (filter (is_left before) rest)

  module _ (before : List Brought) (d x : Brought) where
    -- one declaration more is before it
    with_one : (s : List ℕ) → list_any (is_of s) (before ++ d ∷ []) ≡ (list_any (is_of s) before || (is_of s d || false))
    with_one s = list_any-append (is_of s) before (d ∷ [])

    or_nothing : (b : Bool) → (b || false) ≡ b
    or_nothing true = refl
    or_nothing false = refl

    -- where it isn't left for that one, both are of one label, and put together
    of_one_label : is_left before x ≡ true → is_left (before ++ d ∷ []) x ≡ false
        → (is_gathered ds all d ≡ true) × (list_any (is_of d.label.text) before ≡ false) × (is_of d.label.text x ≡ true)
    of_one_label was isnt =
        let s = x.label.text in
        let g = is_gathered ds all x in
        let m = list_any (is_of s) before in
        let both = and_parts g (list_any (is_of s) (before ++ d ∷ [])) (from_no (g && list_any (is_of s) (before ++ d ∷ [])) isnt) in
        let unmet = only_left g m (from_not (g && m) was) both.0 in
        let meets = sym (or_nothing (is_of s d)) ∙ only_right m (is_of s d || false) (sym (with_one s) ∙ both.1) unmet in
        let of = and_parts (not (stays_alone d)) (bytes_eq d.label.text s) meets in
        let same = (bytes_eq-Decides d.label.text s).0 of.1 in
        let x_of = and_parts (not (stays_alone x)) (gathers ds (those_of s all)) both.0 in
        let gathers_d = subst (λ t. gathers ds (those_of t all) ≡ true) (sym same) x_of.1 in (
          and_from (not (stays_alone d)) (gathers ds (those_of d.label.text all)) of.0 gathers_d,
          subst (λ t. list_any (is_of t) before ≡ false) (sym same) unmet,
          and_from (not (stays_alone x)) (bytes_eq s d.label.text) x_of.0 ((bytes_eq-Decides s d.label.text).1 (sym same)),
        )

  module _ (before : List Brought) (d : Brought) (rest : List Brought) where
    -- fewer are left behind one declaration more: at most those of its label
    fewer : left_in before rest ≤ left_in (before ++ d ∷ []) rest + length (those_of d.label.text rest)
    fewer = kept_by_either (is_left before) (is_left (before ++ d ∷ [])) (is_of d.label.text) (λ x was isnt. (of_one_label before d x was isnt).2) rest

    -- none fewer, where it isn't put together, or met before
    as_many : (is_gathered ds all d ≡ true → list_any (is_of d.label.text) before ≡ false → ⊥) → left_in before rest ≤ left_in (before ++ d ∷ []) rest
    as_many not_first =
        let counted = kept_by_either (is_left before) (is_left (before ++ d ∷ [])) (λ y. false)
        (λ x was isnt. absurd (let o = of_one_label before d x was isnt in not_first o.0 o.1)) rest in
        omega (arith, none_kept rest)

  -- so many declarations of a label that is put together are among them at most
  abbrev AreFew : List Brought → Type 0
  AreFew rest = (s : List ℕ) → gathers ds (those_of s all) ≡ true → length (those_of s rest) ≤ 64

  few_behind : (d : Brought) (rest : List Brought) → AreFew (d ∷ rest) → AreFew rest
  few_behind d rest few s h =
      let here = few s h in
      omega (arith, no_longer (is_of s d) d (those_of s rest))

  -- the first of its label is one of them
  few_at : (d : Brought) (rest : List Brought) → AreFew (d ∷ rest) → is_gathered ds all d ≡ true → suc (length (those_of d.label.text rest)) ≤ 64
  few_at d rest few h =
      let s = d.label.text in
      let w = and_parts (not (stays_alone d)) (gathers ds (those_of s all)) h in
      let own = and_from (not (stays_alone d)) (bytes_eq s s) w.0 ((bytes_eq-Decides s s).1 refl) in
      subst (λ b. length (cond b (d ∷ those_of s rest) (those_of s rest)) ≤ 64) own (few s w.1)

  counted : (before rest : List Brought) → AreFew rest → left_in before rest ≤ 64 * length (gathered_behind ds all before rest)
  counted before [] few = omega arith
  counted before (d ∷ rest) few =
      by (is_gathered ds all d) (list_any (is_of d.label.text) before) refl refl (counted (before ++ d ∷ []) rest (few_behind d rest few))
    where
      one : List Brought
      one = together d.label.text (those_of d.label.text all) ∷ []

      by : (g m : Bool) → is_gathered ds all d ≡ g → list_any (is_of d.label.text) before ≡ m
          → left_in (before ++ d ∷ []) rest ≤ 64 * length (gathered_behind ds all (before ++ d ∷ []) rest)
          → length (cond (not (g && m)) (d ∷ filter (is_left before) rest) (filter (is_left before) rest))
          ≤ 64 * length (cond g (cond m [] (together d.label.text (those_of d.label.text all) ∷ [])) (d ∷ []) ++ gathered_behind ds all (before ++ d ∷ []) rest)
      by true true g m later =
          let same = as_many before d rest (λ h k. both_ways (list_any (is_of d.label.text) before) k m) in
          omega arith
      by true false g m later =
          let less = fewer before d rest in
          let few_here = few_at d rest few g in
          omega arith
      by false true g m later =
          let same = as_many before d rest (λ h k. both_ways (is_gathered ds all d) g h) in
          omega arith
      by false false g m later =
          let same = as_many before d rest (λ h k. both_ways (is_gathered ds all d) g h) in
          omega arith

  -- all are left where none is before
  all_left : (xs : List Brought) → left_in [] xs ≡ length xs
  all_left [] = refl
  all_left (x ∷ xs) = by (is_gathered ds all x) (all_left xs)
    where
      by : (g : Bool) → left_in [] xs ≡ length xs → length (cond (not (g && false)) (x ∷ filter (is_left []) xs) (filter (is_left []) xs)) ≡ suc (length xs)
      by true later = ap suc later
      by false later = ap suc later

  all_few : AreFew all
  all_few s h = at_most (length (those_of s all)) 64 (and_parts (nat_le (length (those_of s all)) most_gathered) (unites ds (values_of (those_of s all))) h).0

pub fewest_of : (ds : List DefinitionTree) (bs : List Brought) → length bs ≤ 64 * length (gathered ds bs)
fewest_of ds bs =
    let all = counted ds bs [] bs (all_few ds bs) in
    omega (arith, all_left ds bs bs)

pub fewest : (ds : List DefinitionTree) (bs : List Brought) → length bs / most_gathered ≤ length (gathered ds bs)
fewest ds bs = omega (arith, fewest_of ds bs)
