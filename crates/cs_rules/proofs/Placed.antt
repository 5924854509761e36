-- What halving finds among marks in order gives the place of a scalar.
use Rattle.std.proofs.Common.{◌≡◌, ℕ, ◌<◌, ◌≤◌, ◌+◌, ◌*◌, ⊎_elim, inl, inr, nat_le, true, false, List, ℤ, Some, String, Global, map, option_map, length, if◌then◌else◌, Ordering, Less, Equal, Greater, string_bytes, refl, sym, ap, ◌∙◌, subst, arith, zero-le}
use Rattle.std.specs.Prelude.{slice_get}
use Rattle.std.specs.List.{HoldsAt, AllByRecursion as Each}
use Rattle.std.specs.List.Sorted.{IsNonDecreasingBy, IsPartitionPoint, IsSorted}
use Rattle.std.specs.Ordering.{int_cmp, nat_cmp, is_eq, ordering_index}
use Rattle.std.specs.Str.{bytes_eq}
use Rattle.std.specs.Cmp.Lexicographic.{slice_cmp, nat_list_cmp_total}
use Rattle.std.specs.String.{string_cmp}
use Rattle.std.proofs.lemmas.Bool.{cases_lt, lt-ltb, le-ltb}
use Rattle.std.proofs.lemmas.Cmp.{int_cmp_total}
use Rattle.std.proofs.lemmas.List.{length-map}
use Rattle.std.proofs.lemmas.List.Sorted.{searchable_from_sorted}
use Rattle.std.proofs.lemmas.Map.Text.{is_eq-slice_cmp}
use Rattle.std.proofs.lemmas.Slice.Eq.{bytes_eq-Decides}
use Rattle.std.proofs.lemmas.Option.{slice_get-map, slice_get_within, get_or_from_slice_get}
use Rattle.cs_document.specs.Opened.{an_integer, a_text}
use Rattle.cs_document.specs.Sizes.{text_length}
use Rattle.cs_rules.specs.Alike.{Compared}
use Rattle.cs_rules.specs.Classed.{HasClass, IsPlace, IsTextPlace, IsReached, each_from}
use Rattle.cs_rules.proofs.Judged.{coded_found, found_within}

module _ {X : Type 0} (ord : X → Ordering) (xs : List X) (i : ℕ) where
  place_at : i < length xs → HoldsAt (λ y. ord y ≡ Equal) xs i → IsPlace ord xs (2 * i + 1)
  place_at l h =
      let f = found_within xs i l in inl (i, f.0, refl, f.1, subst (λ y. ord y ≡ Equal) (get_or_from_slice_get xs i f.0 f.0 f.1) (h f.0))

  place_between : IsPartitionPoint (λ y. ord y ≡ Less) (λ y. ord y ≡ Greater) xs i → IsPlace ord xs (2 * i)
  place_between h = inr (
    i,
    refl,
    λ k x e. ⊎_elim
        (λ (l : k < i). subst (λ y. ord y ≡ Less) (get_or_from_slice_get xs k x x e) (h.0 k x zero-le l) ∙ sym (ap (λ b. if b then Less else Greater) (lt-ltb k i l)))
        (λ (l : i ≤ k). subst (λ y. ord y ≡ Greater) (get_or_from_slice_get xs k x x e) (h.1 k x l (slice_get_within xs k x e)) ∙ sym (ap (λ b. if b then Less else Greater) (le-ltb k i l)))
        (cases_lt k i),
  )

module _ (m : Compared) (z : ℤ) (zs : List ℤ) (are : zs ≡ m.integers) (i : ℕ) where
  pub integer_at : i < length zs → HoldsAt (λ y. int_cmp y z ≡ Equal) zs i → HasClass m (an_integer z) (3 + (2 * i + 1))
  integer_at l h =
      (2 * i + 1, refl, (let same = ap length are in omega (arith, l, same)), subst (λ xs. IsPlace (λ y. int_cmp y z) xs (2 * i + 1)) are (place_at (λ y. int_cmp y z) zs i l h))

  pub integer_between : i ≤ length zs → IsSorted int_cmp zs → (IsNonDecreasingBy (λ y. ordering_index (int_cmp y z)) zs → IsPartitionPoint (λ y. int_cmp y z ≡ Less) (λ y. int_cmp y z ≡ Greater) zs i)
      → HasClass m (an_integer z) (3 + 2 * i)
  integer_between l up h =
      (2 * i, refl, (let same = ap length are in omega (arith, l, same)), subst (λ xs. IsPlace (λ y. int_cmp y z) xs (2 * i)) are (place_between (λ y. int_cmp y z) zs i (h (searchable_from_sorted int_cmp_total (λ y. y) zs z up))))

module _ (m : Compared) (t : List ℕ) (zs : List ℤ) (are : zs ≡ m.integers) (ts : List (String Global)) (texts : map string_bytes ts ≡ m.texts) where
  abbrev ord : List ℕ → Ordering
  ord s = slice_cmp nat_cmp s t

  class_of : (p : ℕ) → IsTextPlace m t p → HasClass m (a_text t) (4 + 2 * length zs + p)
  class_of p h = (p, ap (λ n. 4 + 2 * n + p) (ap length are), h)

  mark_at : (i : ℕ) (u : List ℕ) → slice_get m.texts i ≡ Some u → ord u ≡ Equal → slice_get m.texts i ≡ Some t
  mark_at i u at is = at ∙ ap Some ((bytes_eq-Decides u t).0 (sym (is_eq-slice_cmp u t) ∙ ap is_eq is))

  pub text_at : (i : ℕ) → i < length ts → HoldsAt (λ s. ord (string_bytes s) ≡ Equal) ts i → HasClass m (a_text t) (4 + 2 * length zs + i)
  text_at i l h =
      let f = found_within ts i l in
      let is = subst (λ y. ord (string_bytes y) ≡ Equal) (get_or_from_slice_get ts i f.0 f.0 f.1) (h f.0) in
      let at = ap (λ us. slice_get us i) (sym texts) ∙ slice_get-map string_bytes ts i ∙ ap (option_map string_bytes) f.1 in
      class_of i (inl (mark_at i (string_bytes f.0) at is))

  unlike : (i : ℕ) → IsPartitionPoint (λ s. ord (string_bytes s) ≡ Less) (λ s. ord (string_bytes s) ≡ Greater) ts i → Each (λ u. bytes_eq u t ≡ false) m.texts
  unlike i h = subst (Each (λ u. bytes_eq u t ≡ false)) texts (each_from _ (map string_bytes ts) (λ k u e. (
      let s = coded_found string_bytes ts k u e in
      let is = at_of k s.0 s.1 in
      ap (λ v. bytes_eq v t) (sym s.2) ∙ is)))
    where
      at_of : (k : ℕ) (s : String Global) → slice_get ts k ≡ Some s → bytes_eq (string_bytes s) t ≡ false
      at_of k s e = ⊎_elim
          (λ (l : k < i). sym (is_eq-slice_cmp (string_bytes s) t) ∙ ap is_eq (subst (λ y. ord (string_bytes y) ≡ Less) (get_or_from_slice_get ts k s s e) (h.0 k s zero-le l)))
          (λ (l : i ≤ k). sym (is_eq-slice_cmp (string_bytes s) t) ∙ ap is_eq (subst (λ y. ord (string_bytes y) ≡ Greater) (get_or_from_slice_get ts k s s e) (h.1 k s l (slice_get_within ts k s e))))
          (cases_lt k i)

  pub text_behind : (i k : ℕ) → IsSorted string_cmp ts → (IsNonDecreasingBy (λ s. ordering_index (ord (string_bytes s))) ts → IsPartitionPoint (λ s. ord (string_bytes s) ≡ Less) (λ s. ord (string_bytes s) ≡ Greater) ts i)
      → IsReached m.lengths (text_length t) k → HasClass m (a_text t) (4 + 2 * length zs + (length ts + k))
  text_behind i k up h reached =
      let count : length ts ≡ length m.texts = sym (length-map ts string_bytes) ∙ ap length texts in
      class_of (length ts + k) (inr (k, ap (λ n. n + k) count, unlike i (h (searchable_from_sorted nat_list_cmp_total string_bytes ts t up)), reached))

-- so many of the lengths in order are reached as halving finds
pub reached_at : (lengths : List ℕ) (n p : ℕ) → IsPartitionPoint (λ y. nat_le y n ≡ true) (λ y. nat_le y n ≡ false) lengths p → IsReached lengths n p
reached_at lengths n p h k x e = ⊎_elim
    (λ (l : k < p). subst (λ y. nat_le y n ≡ true) (get_or_from_slice_get lengths k x x e) (h.0 k x zero-le l) ∙ sym (lt-ltb k p l))
    (λ (l : p ≤ k). subst (λ y. nat_le y n ≡ false) (get_or_from_slice_get lengths k x x e) (h.1 k x l (slice_get_within lengths k x e)) ∙ sym (le-ltb k p l))
    (cases_lt k p)
