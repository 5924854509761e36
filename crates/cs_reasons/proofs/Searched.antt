-- The link of a pair is found by halving.
use Rattle.std.proofs.Common.{◌≡◌, ◌≢◌, ℕ, ◌<◌, ◌≤◌, ⊎_elim, inl, inr, true, false, List, get_or, ap, ◌∙◌, sym, subst, arith}
use Rattle.std.specs.List.Sorted.{IsPartitionedBy, IsPartitionPoint}
use Rattle.std.proofs.lemmas.Bool.{cases_eq, cases_lt}
use Rattle.std.proofs.lemmas.Bool.Decides.{nat_tests}
use Rattle.std.proofs.lemmas.Option.{slice_get_within, get_or_from_slice_get, slice_get-get_or}
use Rattle.cs_table.specs.Judged.{IsEarlier}
use Rattle.cs_reasons.specs.Listed.{is_before, AreInOrder, IsLinkAt}
use Rattle.cs_reasons.specs.declared.reasons.Link.{Link}
use Rattle.cs_reasons.proofs.Bits.{no}
use Rattle.cs_reasons.proofs.Pairs.{earlier_trans, not_earlier}

pub before : (j q i r : ℕ) → is_before j q i r ≡ true → IsEarlier j q i r
before j q i r e = ⊎_elim
    (λ (l : j < i). inl l)
    (λ (l : i ≤ j).
    let s : j ≡ i = grind (arith, nat_tests) in
    let t : q < r = grind (arith, nat_tests) in
    inr (s, t))
    (cases_lt j i)

is_lower : (j q i r : ℕ) → j < i → is_before j q i r ≡ true
is_lower j q i r l = grind (arith, nat_tests)

is_left : (j q i r : ℕ) → j ≡ i → q < r → is_before j q i r ≡ true
is_left j q i r e l = grind (arith, nat_tests)

pub is_then : (j q i r : ℕ) → IsEarlier j q i r → is_before j q i r ≡ true
is_then j q i r (inl l) = is_lower j q i r l
is_then j q i r (inr l) = is_left j q i r l.0 l.1

module _ {C : Type 0} (links : List (Link C)) (i r : ℕ) (order : AreInOrder links) where
  pub parted : IsPartitionedBy (λ (l : Link C). is_before l.item l.rule i r) links
  parted a b d l m e = ⊎_elim
      (λ (s : a ≡ b). ap (λ k. is_before (get_or links k d).item (get_or links k d).rule i r) s ∙ e)
      (λ (s : a ≢ b).
      let x = get_or links a d in
      let y = get_or links b d in
      is_then x.item x.rule i r (earlier_trans x.item x.rule y.item y.rule i r (order a b x y (omega arith) (slice_get-get_or links a d (omega arith)) (slice_get-get_or links b d m)) (before y.item y.rule i r e)))
      (cases_eq a b)

  at_pair : (l : Link C) → l.item ≡ i → l.rule ≡ r → IsEarlier l.item l.rule i r → IsEarlier i r i r
  at_pair l e f h = subst (λ x. IsEarlier x r i r) e (subst (λ y. IsEarlier l.item y i r) f h)

  to_pair : (m l : Link C) → l.item ≡ i → l.rule ≡ r → IsEarlier m.item m.rule l.item l.rule → IsEarlier m.item m.rule i r
  to_pair m l e f h = subst (λ x. IsEarlier m.item m.rule x r) e (subst (λ y. IsEarlier m.item m.rule l.item y) f h)

  pub missed : (p : ℕ) → IsPartitionPoint (λ (l : Link C). is_before l.item l.rule i r ≡ true) (λ l. is_before l.item l.rule i r ≡ false) links p
      → ¬ (IsLinkAt links p i r) → (a : ℕ) → ¬ (IsLinkAt links a i r)
  missed p point other a is =
      let l = is.0 in
      let here = get_or_from_slice_get links a l l is.1 in
      let inside = slice_get_within links a l is.1 in
      ⊎_elim
      (λ (k : a < p).
      let e = point.0 a l (omega arith) k in
      let f = before (get_or links a l).item (get_or links a l).rule i r e in
      not_earlier i r (at_pair l is.2 is.3 (subst (λ (m : Link C). IsEarlier m.item m.rule i r) here f)))
      (λ (k : p ≤ a). ⊎_elim
      (λ (s : p ≡ a). other (subst (λ x. IsLinkAt links x i r) (sym s) is))
      (λ (s : p ≢ a).
      let m = get_or links p l in
      let e = point.1 p l (omega arith) (omega arith) in
      no (is_before m.item m.rule i r) e (is_then m.item m.rule i r (to_pair m l is.2 is.3 (order p a m l (omega arith) (slice_get-get_or links p l (omega arith)) is.1))))
      (cases_eq p a))
      (cases_lt a p)

  pair_order : (l m : Link C) → l.item ≡ i → l.rule ≡ r → m.item ≡ i → m.rule ≡ r → IsEarlier l.item l.rule m.item m.rule → IsEarlier i r i r
  pair_order l m a b c d h = at_pair l a b (to_pair l m c d h)

  -- a pair has one link
  pub only_link : (a b : ℕ) → IsLinkAt links a i r → IsLinkAt links b i r → a ≡ b
  only_link a b x y = ⊎_elim
      (λ (l : a < b). absurd (not_earlier i r (pair_order x.0 y.0 x.2 x.3 y.2 y.3 (order a b x.0 y.0 l x.1 y.1))))
      (λ (l : b ≤ a). ⊎_elim
      (λ (s : a ≡ b). s)
      (λ (s : a ≢ b). absurd (not_earlier i r (pair_order y.0 x.0 y.2 y.3 x.2 x.3 (order b a y.0 x.0 (omega arith) y.1 x.1))))
      (cases_eq a b))
      (cases_lt a b)
