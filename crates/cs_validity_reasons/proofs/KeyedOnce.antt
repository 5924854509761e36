-- A value is under one key: each number of a value is named once.
use Rattle.std.proofs.Common.{◌≡◌, ◌<◌, ◌≤◌, inl, inr, ℕ, Bool, true, false, bytes_eq, if◌then◌else◌, zero, suc, ◌+◌, List, [], ◌∷◌, Some, map, flat_map, Contains, refl, sym, ap, ◌∙◌, subst, arith}
use Rattle.std.specs.Prelude.{slice_get}
use Rattle.std.specs.List.{range_with_len, sum_by}
use Rattle.std.proofs.lemmas.List.Sums.{sum_by-cons, sum_by-append}
use Rattle.std.proofs.lemmas.Bool.{cases_order}
use Rattle.std.proofs.lemmas.List.Sorted.{sum_by-IsPermutation}
use Rattle.std.proofs.lemmas.Option.{same_Some}
use Rattle.std.proofs.lemmas.Slice.Eq.{bytes_eq-Decides}
use Rattle.cs_document.specs.Document.{Document, Entry, under}
use Rattle.cs_document.specs.Opened.{Opened, an_object}
use Rattle.cs_flat.specs.Items.{inside}
use Rattle.cs_flat.specs.Listed.{numbers_in, IsListed}
use Rattle.cs_flat.specs.Listed.{values}
use Rattle.cs_flat.specs.Nodes.{node_at}
use Rattle.cs_table.specs.Judged.{AllVerdicts}
use Rattle.cs_profile.specs.Constraint.{Constraint}
use Rattle.cs_validity_reasons.specs.Causes.{property, IsCause, of_claim, of_property}
use Rattle.cs_validity_reasons.specs.PlacedCauses.{IsPlacedCause}
use Rattle.cs_validity_reasons.specs.PlacedTold.{cause_at}
use Rattle.cs_validate.specs.Steps.{numbered}
use Rattle.cs_validate.specs.declared.rules.Rule.{Rule as Coded}
use Rattle.cs_validity_reasons.specs.declared.cause.KeyedCause.TheVariants.{Property}
use Rattle.cs_validity_reasons.proofs.Contained.{place_of, at_place}
use Rattle.cs_validity_reasons.proofs.PlacedNamed.{named_is}

-- one where the numbers are the same, otherwise none
abbrev one : ℕ → ℕ → ℕ
one zero zero = 1
one zero (suc n) = 0
one (suc m) zero = 0
one (suc m) (suc n) = one m n

one_here : (y : ℕ) → one y y ≡ 1
one_here zero = refl
one_here (suc y) = one_here y

one_most : (y n : ℕ) → one y n ≤ 1
one_most zero zero = omega arith
one_most zero (suc n) = omega arith
one_most (suc y) zero = omega arith
one_most (suc y) (suc n) = one_most y n

one_below : (y a : ℕ) → y < a → one y a ≡ 0
one_below zero zero l = absurd (omega (arith, l))
one_below zero (suc a) l = refl
one_below (suc y) zero l = absurd (omega (arith, l))
one_below (suc y) (suc a) l = one_below y a (omega (arith, l))

one_above : (y a : ℕ) → a < y → one y a ≡ 0
one_above zero a l = absurd (omega (arith, l))
one_above (suc y) zero l = refl
one_above (suc y) (suc a) l = one_above y a (omega (arith, l))

abbrev times : ℕ → List ℕ → ℕ
times y ns = sum_by (one y) ns

none_before : (y a n : ℕ) → y < a → times y (range_with_len a n) ≡ 0
none_before y a zero l = refl
none_before y a (suc n) l =
    let e = sum_by-cons (one y) a (range_with_len (a + 1) n) in
    let h = one_below y a l in
    let r = none_before y (a + 1) n (omega (arith, l)) in
    omega (arith, e, h, r)

one_at_most : (y a n : ℕ) → times y (range_with_len a n) ≤ 1
one_at_most y a zero = omega arith
one_at_most y a (suc n) =
    let e = sum_by-cons (one y) a (range_with_len (a + 1) n) in
    elim (cases_order y a) [
      | inl h ↦ let l = one_most y a in let r = none_before y (a + 1) n (omega (arith, h)) in omega (arith, e, l, r)
      | inr h ↦ elim h [
        | inl l ↦ let r = none_before y (a + 1) n (omega (arith, l)) in let k = one_most y a in omega (arith, e, r, k)
        | inr l ↦ let k = one_above y a l in let r = one_at_most y (a + 1) n in omega (arith, e, k, r)
      ]
    ]

-- one of several lists has no more of them than all
in_one : (y : ℕ) (xs : List (Opened ℕ)) (i : ℕ) (x : Opened ℕ) → slice_get xs i ≡ Some x → times y (numbers_in x) ≤ times y (flat_map numbers_in xs)
in_one y [] i x e = cc
in_one y (z ∷ xs) zero x e =
    let s = sum_by-append (one y) (numbers_in z) (flat_map numbers_in xs) in
    let t : times y (numbers_in z) ≡ times y (numbers_in x) = ap (λ w. times y (numbers_in w)) (same_Some z x e) in
    omega (arith, s, t)
in_one y (z ∷ xs) (suc i) x e = let s = sum_by-append (one y) (numbers_in z) (flat_map numbers_in xs) in let r = in_one y xs i x e in omega (arith, s, r)

abbrev numbers : List (Entry ℕ) → List ℕ
numbers ms = map (λ m. m.1) ms

there : (y : ℕ) (ms : List (Entry ℕ)) (j : ℕ) (k : List ℕ) → slice_get ms j ≡ Some (k, y) → 1 ≤ times y (numbers ms)
there y [] j k e = cc
there y (m ∷ ms) zero k e =
    let s = sum_by-cons (one y) m.1 (numbers ms) in
    let t : one y m.1 ≡ 1 = ap (λ (z : Entry ℕ). one y z.1) (same_Some m (k, y) e) ∙ one_here y in
    omega (arith, s, t)
there y (m ∷ ms) (suc j) k e = let s = sum_by-cons (one y) m.1 (numbers ms) in let r = there y ms j k e in omega (arith, s, r)

one_place : (y : ℕ) (ms : List (Entry ℕ)) → times y (numbers ms) ≤ 1 → (i j : ℕ) (k l : List ℕ) → slice_get ms i ≡ Some (k, y) → slice_get ms j ≡ Some (l, y) → i ≡ j
one_place y [] h i j k l d e = cc
one_place y (m ∷ ms) h zero zero k l d e = refl
one_place y (m ∷ ms) h zero (suc j) k l d e =
    let s = sum_by-cons (one y) m.1 (numbers ms) in
    let t : one y m.1 ≡ 1 = ap (λ (z : Entry ℕ). one y z.1) (same_Some m (k, y) d) ∙ one_here y in
    let r = there y ms j l e in
    absurd (omega (arith, h, s, t, r))
one_place y (m ∷ ms) h (suc i) zero k l d e =
    let s = sum_by-cons (one y) m.1 (numbers ms) in
    let t : one y m.1 ≡ 1 = ap (λ (z : Entry ℕ). one y z.1) (same_Some m (l, y) e) ∙ one_here y in
    let r = there y ms i k d in
    absurd (omega (arith, h, s, t, r))
one_place y (m ∷ ms) h (suc i) (suc j) k l d e = let s = sum_by-cons (one y) m.1 (numbers ms) in ap suc (one_place y ms (omega (arith, h, s)) i j k l d e)

-- the place of a value in a map of a listed document
pub same_place : (d : Document) (xs : List (Opened ℕ)) → IsListed d xs → (i : ℕ) (ms : List (Entry ℕ)) → slice_get xs i ≡ Some (an_object ms) → (y p q : ℕ) (k l : List ℕ) → slice_get ms p ≡ Some (k, y) → slice_get ms q ≡ Some (l, y) → p ≡ q
same_place d xs h i ms e y p q k l a b =
    let s = sum_by-IsPermutation (one y) (flat_map numbers_in xs) (range_with_len 0 (inside d)) h.once in
    let few = one_at_most y 0 (inside d) in
    let part = in_one y xs i (an_object ms) e in
    one_place y ms (omega (arith, s, few, part)) p q k l a b

-- and its key
pub same_key : (d : Document) (xs : List (Opened ℕ)) → IsListed d xs → (i : ℕ) (ms : List (Entry ℕ)) → slice_get xs i ≡ Some (an_object ms) → (y : ℕ) (k l : List ℕ) → Contains ms (k, y) → Contains ms (l, y) → k ≡ l
same_key d xs h i ms e y k l a b =
    let p = place_of ms (k, y) a in
    let q = place_of ms (l, y) b in
    let is = same_place d xs h i ms e y p.0 q.0 k l p.1 q.1 in
    ap (λ (z : Entry ℕ). z.0) (same_Some (k, y) (l, y) (sym p.1 ∙ ap (slice_get ms) is ∙ q.1))

-- ---- the key of a property

place_under : (ms : List (Entry ℕ)) (k : List ℕ) (y : ℕ) → under k ms ≡ Some y → (m : ℕ) × (slice_get ms m ≡ Some (k, y))
place_under [] k y e = cc
place_under (m ∷ ms) k y e = by (bytes_eq k m.0) refl (place_under ms k y) e
  where
    by : (b : Bool) → bytes_eq k m.0 ≡ b → (under k ms ≡ Some y → (n : ℕ) × (slice_get ms n ≡ Some (k, y))) → (if b then Some m.1 else under k ms) ≡ Some y → (n : ℕ) × (slice_get (m ∷ ms) n ≡ Some (k, y))
    by true is rest e =
        let key : m.0 ≡ k = sym ((bytes_eq-Decides k m.0).0 is) in
        (0, ap (λ l. Some (l, m.1)) key ∙ ap (λ z. Some (k, z)) (same_Some m.1 y e))
    by false is rest e = let r = rest e in (suc r.0, r.1)

property_there : (here : ℕ → Bool) (inside : ℕ → ℕ → Bool) (d : Document) (x : Opened ℕ) (a : Constraint ℕ ℕ) {k : List ℕ} {y s : ℕ}
    → IsCause here inside d x a (property k y s) → (ms : List (Entry ℕ)) × (x ≡ an_object ms) × Contains ms (k, y)
property_there here inside d x a {k} {y} (of_claim m (of_property {ms = ms} o u v w)) = let p = place_under ms k y v in (ms, o, at_place ms (k, y) p.0 p.1)

-- a text that is each key of the value is the key of the property
pub property_named : (f : AllVerdicts) (xs : List (Opened ℕ)) (rules : List Coded) (inner : List ℕ) (i r place item q : ℕ) (n : List ℕ)
    → ((ms : List (Entry ℕ)) (k : List ℕ) → slice_get xs i ≡ Some (an_object ms) → Contains ms (k, item) → n ≡ k)
    → IsPlacedCause f xs rules inner i r (Property place item q) → property n item q ≡ cause_at xs rules inner (i, r) (Property place item q)
property_named f xs rules inner i r place item q n each h =
    let is = named_is f xs rules inner i r (Property place item q) h in
    let given = subst (IsCause (f i) f (node_at (values xs) i) h.value (numbered inner h.asks)) is h.cause in
    let t = property_there (f i) f (node_at (values xs) i) h.value (numbered inner h.asks) given in
    ap (λ k. property k item q) (each t.0 _ (h.at_item ∙ ap (λ x. Some x) t.1) t.2)
