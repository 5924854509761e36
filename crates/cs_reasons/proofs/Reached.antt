-- What is marked is reached, and all that is reached is marked in the end.
use Rattle.std.proofs.Common.{◌≡◌, ◌≢◌, ℕ, suc, ◌<◌, ◌≤◌, ◌+◌, ◌*◌, ◌⊎◌, ⊎_elim, inl, inr, List, length, Option, Some, None, true, false, ap, ◌∙◌, sym, subst, refl, arith}
use Rattle.std.specs.Prelude.{slice_get}
use Rattle.std.proofs.lemmas.Bool.{cases_eq, cases_lt}
use Rattle.std.proofs.lemmas.Option.{slice_get_read}
use Rattle.cs_table.specs.Judged.{IsEarlier}
use Rattle.cs_reasons.specs.Marked.{marked, IsLastBefore}
use Rattle.cs_reasons.specs.Reached.{IsLedTo, AreMarked, AreReached, AreReachedTo, IsPast, IsNext}
use Rattle.cs_reasons.specs.Reasons.{AreCauses, IsReached}
use Rattle.cs_reasons.specs.declared.marks.Marks.{Marks}
use Rattle.cs_reasons.proofs.Bits.{no}
use Rattle.cs_reasons.proofs.Marked.{is_within}
use Rattle.cs_reasons.proofs.Pairs.{in_order, not_both, not_earlier, place_before}

-- how many places there are up to that of the next pair
abbrev pub places_to : ℕ → Option (ℕ × ℕ) → ℕ
places_to rules None = 0
places_to rules (Some p) = suc (p.0 * rules + p.1)

pub fewer_places : (m m' : Marks) (at : Option (ℕ × ℕ)) (n k : ℕ) (next : Option (ℕ × ℕ)) → at ≡ Some (n, k) → m'.rules ≡ m.rules → IsLastBefore (marked m') n k next → places_to m'.rules next < places_to m.rules at
fewer_places m m' at n k None is rules last = subst (λ x. 0 < places_to m.rules x) (sym is) (omega arith)
fewer_places m m' at n k (Some p) is rules last =
    let l = place_before m'.rules p.0 p.1 n k (is_within m' p.0 p.1 last.0).1 last.1 in
    subst (λ x. suc (p.0 * m'.rules + p.1) < places_to m.rules x) (sym is) (subst (λ r. suc (p.0 * m'.rules + p.1) < suc (n * r + k)) rules (omega arith))

module _ {C : Type 0} (leads_to : C → Option (ℕ × ℕ)) where
  pub none_marked : (cs : List C) (m : Marks) → AreMarked leads_to cs 0 m m
  none_marked cs m = record {
    kept = λ j q e. e;
    led = λ j q h. let l = h.2 in absurd (omega arith);
    new = λ j q e. inl e;
  }

  module _ (cs : List C) (n : ℕ) (m0 m m' : Marks) (c : C) (at : slice_get cs n ≡ Some c) (before : AreMarked leads_to cs n m0 m) where
    still_led : (a b : ℕ) → IsLedTo leads_to cs n a b → IsLedTo leads_to cs (n + 1) a b
    still_led a b h = (h.0, h.1, (let l = h.2 in omega arith), h.3, h.4)

    led_last : (a b : ℕ) → IsLedTo leads_to cs (n + 1) a b → IsLedTo leads_to cs n a b ⊎ (leads_to c ≡ Some (a, b))
    led_last a b h = ⊎_elim
        (λ (l : h.0 < n). inl (h.0, h.1, l, h.3, h.4))
        (λ (l : n ≤ h.0).
        let s : h.0 ≡ n = let k = h.2 in omega arith in
        let t : Some h.1 ≡ Some c = sym h.3 ∙ ap (λ x. slice_get cs x) s ∙ at in
        let u : h.1 ≡ c = cc in
        inr (ap leads_to (sym u) ∙ h.4))
        (cases_lt h.0 n)

    pub leaf_passed : leads_to c ≡ None → AreMarked leads_to cs (n + 1) m0 m
    leaf_passed leaf = record {
      kept = before.kept;
      led = λ a b h. ⊎_elim (λ (l : IsLedTo leads_to cs n a b). before.led a b l) (λ (l : leads_to c ≡ Some (a, b)). let x = sym leaf ∙ l in absurd (cc)) (led_last a b h);
      new = λ a b e. ⊎_elim (λ (l : marked m0 a b ≡ true). inl l) (λ (l : IsLedTo leads_to cs n a b). inr (still_led a b l)) (before.new a b e);
    }

    module _ (j q : ℕ) (leads : leads_to c ≡ Some (j, q)) (is : marked m' j q ≡ true) (others : (a b : ℕ) → (a ≡ j → b ≢ q) → marked m' a b ≡ marked m a b) where
      is_it : (a b : ℕ) → ((a ≡ j) × (b ≡ q)) ⊎ (a ≡ j → b ≢ q)
      is_it a b = ⊎_elim
          (λ (s : a ≡ j). ⊎_elim (λ (t : b ≡ q). inl (s, t)) (λ (t : b ≢ q). inr (λ _. t)) (cases_eq b q))
          (λ (s : a ≢ j). inr (λ u. absurd (s u)))
          (cases_eq a j)

      here : (a b : ℕ) → (a ≡ j) × (b ≡ q) → marked m' a b ≡ true
      here a b e = ap (λ x. marked m' x b) e.0 ∙ ap (λ y. marked m' j y) e.1 ∙ is

      keeps : (a b : ℕ) → marked m a b ≡ true → marked m' a b ≡ true
      keeps a b e = ⊎_elim (λ (s : (a ≡ j) × (b ≡ q)). here a b s) (λ (s : a ≡ j → b ≢ q). others a b s ∙ e) (is_it a b)

      pub pair_marked : AreMarked leads_to cs (n + 1) m0 m'
      pair_marked = record {
        kept = λ a b e. keeps a b (before.kept a b e);
        led = λ a b h. ⊎_elim
            (λ (l : IsLedTo leads_to cs n a b). keeps a b (before.led a b l))
            (λ (l : leads_to c ≡ Some (a, b)).
            let x = sym l ∙ leads in
            let P : ℕ × ℕ = (a, b) in
            let Q : ℕ × ℕ = (j, q) in
            let y : P ≡ Q = cc in
            here a b (ap (λ p. p.0) y, ap (λ p. p.1) y))
            (led_last a b h);
        new = λ a b e. ⊎_elim
            (λ (s : (a ≡ j) × (b ≡ q)). inr (n, c, (omega arith), at, (leads ∙ ap (λ x. Some (x, q)) (sym s.0) ∙ ap (λ y. Some (a, y)) (sym s.1))))
            (λ (s : a ≡ j → b ≢ q). ⊎_elim (λ (l : marked m0 a b ≡ true). inl l) (λ (l : IsLedTo leads_to cs n a b). inr (still_led a b l)) (before.new a b (sym (others a b s) ∙ e)))
            (is_it a b);
      }

  module _ (is_cause : ℕ → ℕ → C → Type 0) (refused : ℕ → ℕ → Type 0) (earlier : (i r j q : ℕ) (c : C) → is_cause i r c → leads_to c ≡ Some (j, q) → refused j q × IsEarlier j q i r) (i r : ℕ) where
    pub reached_refused : refused i r → (j q : ℕ) → IsReached leads_to is_cause i r j q → refused j q
    reached_refused h j q (IsReached.first) = h
    reached_refused h k s (IsReached.next {j = a} {q = b} {c = c} w cause leads) = (earlier a b k s c cause leads).0

    pub started : (m : Marks) → marked m i r ≡ true → ((a b : ℕ) → (a ≡ i → b ≢ r) → marked m a b ≡ false) → AreReachedTo leads_to is_cause i r (Some (i, r)) m
    started m is others = record {
      sound = λ j q e. ⊎_elim
          (λ (s : j ≡ i). ⊎_elim
          (λ (t : q ≡ r). subst (λ x. IsReached leads_to is_cause i r x q) (sym s) (subst (λ y. IsReached leads_to is_cause i r i y) (sym t) IsReached.first))
          (λ (t : q ≢ r). absurd (no (marked m j q) (others j q (λ _. t)) e))
          (cases_eq q r))
          (λ (s : j ≢ i). absurd (no (marked m j q) (others j q (λ u. absurd (s u))) e))
          (cases_eq j i);
      first = is;
      next = is;
      done = λ j q k s c e past cause leads. absurd (no (marked m j q) (others j q (λ a b. not_earlier i r (subst (λ x. IsEarlier i r x r) a (subst (λ y. IsEarlier i r j y) b past)))) e);
    }

    is_next : (n k : ℕ) (m : Marks) (at : Option (ℕ × ℕ)) → IsLastBefore (marked m) n k at → IsNext leads_to is_cause i r m at
    is_next n k m None last = tt
    is_next n k m (Some p) last = last.0

    none_between : (n k : ℕ) (m : Marks) (at : Option (ℕ × ℕ)) → IsLastBefore (marked m) n k at → (j q : ℕ) → marked m j q ≡ true → IsPast leads_to is_cause i r at j q → IsEarlier j q n k → ⊥
    none_between n k m None last j q e past o = last j q e o
    none_between n k m (Some p) last j q e past o = last.2 j q e past o

    pub stepped : (n k : ℕ) (cs : List C) (m m' : Marks) (at : Option (ℕ × ℕ)) → AreReachedTo leads_to is_cause i r (Some (n, k)) m → AreCauses (is_cause n k) cs → AreMarked leads_to cs (length cs) m m'
        → IsLastBefore (marked m') n k at → AreReachedTo leads_to is_cause i r at m'
    stepped n k cs m m' at before causes marks last = record {
      sound = λ j q e. ⊎_elim
          (λ (l : marked m j q ≡ true). before.sound j q l)
          (λ (l : IsLedTo leads_to cs (length cs) j q). IsReached.next (before.sound n k before.next) (causes.sound l.0 l.1 l.3) l.4)
          (marks.new j q e);
      first = marks.kept i r before.first;
      next = is_next n k m' at last;
      done = λ j q a b c e past cause leads. ⊎_elim
          (λ (o : IsEarlier j q n k). absurd (none_between n k m' at last j q e past o))
          (λ (o : ((j ≡ n) × (q ≡ k)) ⊎ IsEarlier n k j q). ⊎_elim
          (λ (s : (j ≡ n) × (q ≡ k)).
          let here : is_cause n k c = subst (λ x. is_cause x k c) s.0 (subst (λ y. is_cause j y c) s.1 cause) in
          let has = causes.complete c here in
          marks.led a b (has.0, c, has.1, slice_get_read cs (length cs) has.0 c refl has.1 (sym has.2), leads))
          (λ (l : IsEarlier n k j q). ⊎_elim
          (λ (h : marked m j q ≡ true). marks.kept a b (before.done j q a b c h l cause leads))
          (λ (h : IsLedTo leads_to cs (length cs) j q). absurd (not_both n k j q l (earlier n k j q h.1 (causes.sound h.0 h.1 h.3) h.4).1))
          (marks.new j q e))
          o)
          (in_order j q n k);
    }

    covers : (m : Marks) → AreReachedTo leads_to is_cause i r None m → (j q : ℕ) → IsReached leads_to is_cause i r j q → marked m j q ≡ true
    covers m all j q (IsReached.first) = all.first
    covers m all k s (IsReached.next {j = a} {q = b} {c = c} w cause leads) = all.done a b k s c (covers m all a b w) tt cause leads

    pub finished : (m : Marks) → AreReachedTo leads_to is_cause i r None m → AreReached leads_to is_cause i r m
    finished m all = record {
      sound = all.sound;
      complete = covers m all;
    }
