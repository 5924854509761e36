-- Pairs are passed one after another, each with all of its causes, until all are listed.
use Rattle.std.proofs.Common.{◌≡◌, ℕ, suc, ◌<◌, ◌≤◌, ◌+◌, ◌-◌, ◌*◌, ◌⊎◌, ⊎_elim, inl, inr, List, [], length, map, Option, Some, None, true, ap, ◌∙◌, sym, subst, refl, arith}
use Rattle.std.specs.Prelude.{slice_get}
use Rattle.std.proofs.lemmas.Bool.{cases_lt}
use Rattle.std.proofs.lemmas.Option.{slice_get_within}
use Rattle.cs_table.specs.Judged.{IsEarlier}
use Rattle.cs_reasons.specs.Marked.{marked, IsFirstFrom}
use Rattle.cs_reasons.specs.Reached.{AreReached, IsNext}
use Rattle.cs_reasons.specs.Reasons.{AreCauses, IsReached}
use Rattle.cs_reasons.specs.Told.{entry_of, IsUnder, AreReasons}
use Rattle.cs_reasons.specs.Listed.{IsListed, AreListed}
use Rattle.cs_reasons.specs.Passed.{IsPassed, IsUpTo, IsPairBefore, IsCauseBefore, IsPairTo, IsOneOf, IsCauseTo, AreListedTo}
use Rattle.cs_reasons.specs.declared.marks.Marks.{Marks}
use Rattle.cs_reasons.specs.declared.reasons.Link.{Link}
use Rattle.cs_reasons.specs.declared.reasons.Up.{Up}
use Rattle.cs_reasons.specs.declared.reasons.Reasons.{Reasons}
use Rattle.cs_reasons.proofs.Bits.{before_end}
use Rattle.cs_reasons.proofs.Links.{More, moved}
use Rattle.cs_reasons.proofs.Lists.{some_same, is_there, take_none}
use Rattle.cs_reasons.proofs.Listings.{same_done, listed_more}
use Rattle.cs_reasons.proofs.Marked.{is_within}
use Rattle.cs_reasons.proofs.Pairs.{earlier_trans, not_earlier, not_both, in_order, place_before}
use Rattle.cs_reasons.proofs.Tellings.{contained}

-- how many places there are from that of the next pair on
abbrev pub places_left : ℕ → ℕ → Option (ℕ × ℕ) → ℕ
places_left items rules None = 0
places_left items rules (Some p) = suc (items * rules) - (p.0 * rules + p.1)

-- a pair before n, k + 1 comes before n, k or is that one
pub up_to : (j q n k : ℕ) → IsEarlier j q n (k + 1) → IsUpTo j q n k
up_to j q n k (inl l) = inl (inl l)
up_to j q n k (inr l) = ⊎_elim
    (λ (m : q < k). inl (inr (l.0, m)))
    (λ (m : k ≤ q). inr (l.0, let h = l.1 in omega arith))
    (cases_lt q k)

-- and one that doesn't comes after n, k
pub comes_after : (j q n k : ℕ) → ¬ (IsEarlier j q n (k + 1)) → IsEarlier n k j q
comes_after j q n k not = ⊎_elim
    (λ (o : IsEarlier j q n k). absurd (not (earlier_trans j q n k n (k + 1) o (inr (refl, omega arith)))))
    (λ (o : ((j ≡ n) × (q ≡ k)) ⊎ IsEarlier n k j q). ⊎_elim
    (λ (s : (j ≡ n) × (q ≡ k)). absurd (not (inr (s.0, let h = s.1 in omega arith))))
    (λ (s : IsEarlier n k j q). s)
    o)
    (in_order j q n k)

pub still_passed : (m : Marks) (n k : ℕ) (at : Option (ℕ × ℕ)) → IsFirstFrom (marked m) n (k + 1) at → (j q : ℕ) → IsUpTo j q n k → IsPassed at j q
still_passed m n k None first j q to = tt
still_passed m n k (Some p) first j q (inl e) = earlier_trans j q n k p.0 p.1 e (comes_after p.0 p.1 n k first.1)
still_passed m n k (Some p) first j q (inr e) = moved n k p.0 p.1 j q p.0 p.1 (sym e.0) (sym e.1) refl refl (comes_after p.0 p.1 n k first.1)

pub passed_to : (m : Marks) (n k : ℕ) (at : Option (ℕ × ℕ)) → IsFirstFrom (marked m) n (k + 1) at → (j q : ℕ) → marked m j q ≡ true → IsPassed at j q → IsUpTo j q n k
passed_to m n k None first j q e past = up_to j q n k (first j q e)
passed_to m n k (Some p) first j q e past = up_to j q n k (first.2 j q e past)

none_first : (j q : ℕ) → IsEarlier j q 0 0 → ⊥
none_first j q (inl l) = omega arith
none_first j q (inr l) = let h = l.1 in omega arith

pub nothing_passed : (m : Marks) (at : Option (ℕ × ℕ)) → IsFirstFrom (marked m) 0 0 at → (j q : ℕ) → marked m j q ≡ true → IsPassed at j q → ⊥
nothing_passed m None first j q e past = none_first j q (first j q e)
nothing_passed m (Some p) first j q e past = none_first j q (first.2 j q e past)

fewer : (m : Marks) (n k : ℕ) (next : Option (ℕ × ℕ)) → marked m n k ≡ true → IsFirstFrom (marked m) n (k + 1) next → places_left m.items m.rules next < suc (m.items * m.rules) - (n * m.rules + k)
fewer m n k None e first =
    let h = is_within m n k e in
    let l = before_end n m.items m.rules k h.0 h.1 in omega arith
fewer m n k (Some p) e first =
    let h = is_within m p.0 p.1 first.0 in
    let l = before_end p.0 m.items m.rules p.1 h.0 h.1 in
    let o = place_before m.rules n k p.0 p.1 (is_within m n k e).1 (comes_after p.0 p.1 n k first.1) in omega arith

pub fewer_left : (m : Marks) (at : Option (ℕ × ℕ)) (n k : ℕ) (next : Option (ℕ × ℕ)) → at ≡ Some (n, k) → marked m n k ≡ true → IsFirstFrom (marked m) n (k + 1) next → places_left m.items m.rules next < places_left m.items m.rules at
fewer_left m at n k next is e first = subst (λ x. places_left m.items m.rules next < places_left m.items m.rules x) (sym is) (fewer m n k next e first)

empty : {A : Type 0} {xs : List A} → xs ≡ [] → (j : ℕ) (x : A) → slice_get xs j ≡ Some x → ⊥
empty {A} {xs} is j x e = let l = slice_get_within xs j x e in let n : length xs ≡ 0 = ap length is in omega arith

pub is_next : {C : Type 0} (leads_to : C → Option (ℕ × ℕ)) (is_cause : ℕ → ℕ → C → Type 0) (i r : ℕ) (m : Marks) (n k : ℕ) (at : Option (ℕ × ℕ)) → IsFirstFrom (marked m) n k at → IsNext leads_to is_cause i r m at
is_next leads_to is_cause i r m n k None first = tt
is_next leads_to is_cause i r m n k (Some p) first = first.0

-- no reason is lost from the count
pub counts_on : {C : Type 0} (most n k : ℕ) (c : C) (o : Option (ℕ × ℕ)) (rs now : Reasons C) → IsListed most n k c o rs now → rs.count ≤ now.count
counts_on most n k c None rs now step = let e = step.0 in omega arith
counts_on most n k c (Some p) rs now step = let e = step.0 in omega arith

module _ {C : Type 0} (leads_to : C → Option (ℕ × ℕ)) (is_cause : ℕ → ℕ → C → Type 0) (refused : ℕ → ℕ → Type 0) (earlier : (i r j q : ℕ) (c : C) → is_cause i r c → leads_to c ≡ Some (j, q) → refused j q × IsEarlier j q i r) (i r most : ℕ) where
  abbrev Reached : ℕ → ℕ → Type 0
  Reached = IsReached leads_to is_cause i r

  pub nothing_listed : (m : Marks) → AreReached leads_to is_cause i r m → (at : Option (ℕ × ℕ)) → IsFirstFrom (marked m) 0 0 at → (rs : Reasons C) → rs.links.items ≡ [] → rs.told.items ≡ [] → rs.count ≡ 0 → AreListedTo leads_to is_cause i r most at rs
  nothing_listed m all at first rs links told count =
      let none : (j q : ℕ) → Reached j q → IsPassed at j q → ⊥ = λ j q w past. nothing_passed m at first j q (all.complete j q w) past in
      record {
        listed = record {
          links = record {
            in_order = λ a b l o lt x y. absurd (empty links a l x);
            reached = λ a l x. absurd (empty links a l x);
            under = λ a l u x up. absurd (empty links a l x);
            linked = λ a l e x d lead up. empty links a l x;
          };
          all = [];
          told = record {
            sound = λ j e x. absurd (empty refl j e x);
            complete = λ e d leaf. absurd (none e.0.0 e.0.1 d.0 d.2);
            once = λ a b e x y. absurd (empty refl a e x);
            in_order = λ a b e g lt x y. absurd (empty refl a e x);
            within = λ j t x. absurd (empty told j t x);
            told = ap (λ ts. map (entry_of rs.links.items) ts) told ∙ sym (take_none most);
            count = count;
          };
        };
        some = λ j q w past. absurd (none j q w past);
      }

  -- a cause of the pair n, k more is done
  module _ (n k : ℕ) (cs : List C) (causes : AreCauses (is_cause n k) cs) (w : Reached n k) where
    not_ahead : (h : ℕ) (e : (ℕ × ℕ) × C) → IsCauseTo leads_to is_cause i r cs h n k e → leads_to e.1 ≡ Some (n, k) → ⊥
    not_ahead h e (inl d) lead = not_both n k e.0.0 e.0.1 (earlier e.0.0 e.0.1 n k e.1 d.1 lead).1 d.2
    not_ahead h e (inr d) lead = not_earlier n k (earlier n k n k e.1 (causes.sound d.0 e.1 d.4) lead).1

    not_done : (h : ℕ) (c : C) → slice_get cs h ≡ Some c → IsCauseTo leads_to is_cause i r cs h n k ((n, k), c) → ⊥
    not_done h c at (inl d) = not_earlier n k d.2
    not_done h c at (inr d) = let s = causes.once d.0 h c d.4 at in let l = d.1 in omega arith

    -- no cause that is done is one of a later pair
    done_behind : (h : ℕ) (e : (ℕ × ℕ) × C) → IsCauseTo leads_to is_cause i r cs h n k e → ¬ (IsEarlier n k e.0.0 e.0.1)
    done_behind h e (inl d) = not_both e.0.0 e.0.1 n k d.2
    done_behind h e (inr d) = λ later. not_earlier n k (moved n k e.0.0 e.0.1 n k n k refl refl d.2 d.3 later)

    done_more : (h : ℕ) (c : C) → slice_get cs h ≡ Some c → (e : (ℕ × ℕ) × C) → More (IsCauseTo leads_to is_cause i r cs h n k) ((n, k), c) e → IsCauseTo leads_to is_cause i r cs (h + 1) n k e
    done_more h c at e (inl (inl d)) = inl d
    done_more h c at e (inl (inr d)) = inr (d.0, (let l = d.1 in omega arith), d.2, d.3, d.4)
    done_more h c at e (inr d) = inr (h, (omega arith), ap (λ z. z.0.0) d, ap (λ z. z.0.1) d, at ∙ ap (λ z. Some z.1) (sym d))

    more_done : (h : ℕ) (c : C) → slice_get cs h ≡ Some c → (e : (ℕ × ℕ) × C) → IsCauseTo leads_to is_cause i r cs (h + 1) n k e → More (IsCauseTo leads_to is_cause i r cs h n k) ((n, k), c) e
    more_done h c at e (inl d) = inl (inl d)
    more_done h c at e (inr d) = ⊎_elim
        (λ (l : d.0 < h). inl (inr (d.0, l, d.2, d.3, d.4)))
        (λ (l : h ≤ d.0).
        let s : d.0 ≡ h = let m = d.1 in omega arith in
        let t : e.1 ≡ c = some_same e.1 c (sym d.4 ∙ ap (λ x. slice_get cs x) s ∙ at) in
        inr (ap (λ x. ((x, e.0.1), e.1)) d.2 ∙ ap (λ x. ((n, x), e.1)) d.3 ∙ ap (λ x. ((n, k), x)) t))
        (cases_lt d.0 h)

    pub cause_listed : (h : ℕ) (c : C) → slice_get cs h ≡ Some c → (rs now : Reasons C) → AreListed leads_to (IsPairTo leads_to is_cause i r n k) (IsCauseTo leads_to is_cause i r cs h n k) most rs
        → IsListed most n k c (leads_to c) rs now → AreListed leads_to (IsPairTo leads_to is_cause i r n k) (IsCauseTo leads_to is_cause i r cs (h + 1) n k) most now
    cause_listed h c at rs now before step =
        same_done leads_to (IsPairTo leads_to is_cause i r n k) (More (IsCauseTo leads_to is_cause i r cs h n k) ((n, k), c)) (IsCauseTo leads_to is_cause i r cs (h + 1) n k) (done_more h c at) (more_done h c at)
        (IsPairTo leads_to is_cause i r n k) (λ j q x. x) most now
        (listed_more leads_to (IsPairTo leads_to is_cause i r n k) (IsCauseTo leads_to is_cause i r cs h n k) n k most (w, inr (refl, refl)) (λ j q x. x.1) (not_ahead h) c (not_done h c at) (done_behind h)
        (λ j q lead. (earlier n k j q c (causes.sound h c at) lead).1) rs now before step)

    -- before the first of them
    pub pair_begun : (rs : Reasons C) → AreListedTo leads_to is_cause i r most (Some (n, k)) rs → AreListed leads_to (IsPairTo leads_to is_cause i r n k) (IsCauseTo leads_to is_cause i r cs 0 n k) most rs
    pair_begun rs before =
        same_done leads_to (IsPairBefore leads_to is_cause i r (Some (n, k))) (IsCauseBefore leads_to is_cause i r (Some (n, k))) (IsCauseTo leads_to is_cause i r cs 0 n k)
        (λ e d. inl d) (λ e d. ⊎_elim (λ (x : IsCauseBefore leads_to is_cause i r (Some (n, k)) e). x) (λ (x : IsOneOf leads_to is_cause i r cs 0 n k e). let l = x.1 in absurd (omega arith)) d)
        (IsPairTo leads_to is_cause i r n k) (λ j q x. (x.0, inl x.1)) most rs before.listed

    -- after the last of them
    module _ (m : Marks) (all : AreReached leads_to is_cause i r m) (at : Option (ℕ × ℕ)) (first : IsFirstFrom (marked m) n (k + 1) at) (rs now : Reasons C) (before : AreListedTo leads_to is_cause i r most (Some (n, k)) rs) (grown : 0 < rs.count → 0 < now.count)
        (listed : AreListed leads_to (IsPairTo leads_to is_cause i r n k) (IsCauseTo leads_to is_cause i r cs (length cs) n k) most now) where
      to_next : (e : (ℕ × ℕ) × C) → IsCauseTo leads_to is_cause i r cs (length cs) n k e → IsCauseBefore leads_to is_cause i r at e
      to_next e (inl d) = (d.0, d.1, still_passed m n k at first e.0.0 e.0.1 (inl d.2))
      to_next e (inr d) = (
        subst (λ x. Reached x e.0.1) (sym d.2) (subst (λ x. Reached n x) (sym d.3) w),
        subst (λ x. is_cause x e.0.1 e.1) (sym d.2) (subst (λ x. is_cause n x e.1) (sym d.3) (causes.sound d.0 e.1 d.4)),
        still_passed m n k at first e.0.0 e.0.1 (inr (d.2, d.3)),
      )

      from_next : (e : (ℕ × ℕ) × C) → IsCauseBefore leads_to is_cause i r at e → IsCauseTo leads_to is_cause i r cs (length cs) n k e
      from_next e d = ⊎_elim
          (λ (o : IsEarlier e.0.0 e.0.1 n k). inl (d.0, d.1, o))
          (λ (o : (e.0.0 ≡ n) × (e.0.1 ≡ k)).
          let has = causes.complete e.1 (subst (λ x. is_cause x k e.1) o.0 (subst (λ x. is_cause e.0.0 x e.1) o.1 d.1)) in
          inr (has.0, has.1, o.0, o.1, contained cs e.1 has))
          (passed_to m n k at first e.0.0 e.0.1 (all.complete e.0.0 e.0.1 d.0) d.2)

      abbrev one : C
      one = (is_there cs 0 causes.some).0

      one_at : slice_get cs 0 ≡ Some one
      one_at = (is_there cs 0 causes.some).1

      -- the first cause is a reason, or leads to a pair with a reason
      by_one : (o : Option (ℕ × ℕ)) → leads_to one ≡ o → 0 < now.count
      by_one None leaf =
          let has = listed.told.complete ((n, k), one) (inr (0, causes.some, refl, refl, one_at)) leaf in
          let l = has.1 in let c = listed.told.count in omega arith
      by_one (Some p) lead =
          let c = causes.sound 0 one one_at in
          let has = before.some p.0 p.1 (IsReached.next w c lead) (earlier n k p.0 p.1 one c lead).1 in
          grown has

      counted : 0 < now.count
      counted = by_one (leads_to one) refl

      pub pair_listed : AreListedTo leads_to is_cause i r most at now
      pair_listed = record {
        listed = same_done leads_to (IsPairTo leads_to is_cause i r n k) (IsCauseTo leads_to is_cause i r cs (length cs) n k) (IsCauseBefore leads_to is_cause i r at) to_next from_next
            (IsPairBefore leads_to is_cause i r at) (λ j q x. (x.0, still_passed m n k at first j q x.1)) most now listed;
        some = λ j q v past. counted;
      }

  at_first : (j q : ℕ) → Reached j q → ((j ≡ i) × (q ≡ r)) ⊎ ((a b : ℕ) × (c : C) × Reached a b × is_cause a b c × (leads_to c ≡ Some (j, q)))
  at_first j q (IsReached.first) = inl (refl, refl)
  at_first k s (IsReached.next {j = a} {q = b} {c = c} v cause lead) = inr (a, b, c, v, cause, lead)

  module _ (rs : Reasons C) (done : AreListedTo leads_to is_cause i r most None rs) where
    abbrev links : List (Link C)
    links = rs.links.items

    under : (a : ℕ) (l : Link C) → slice_get links a ≡ Some l → (u : Option (Up C)) → l.up ≡ u → IsUnder leads_to is_cause i r links a (l.item, l.rule) u
    under a l at None is = ⊎_elim
        (λ (s : (l.item ≡ i) × (l.rule ≡ r)). ap (λ x. (x, l.rule)) s.0 ∙ ap (λ x. (i, x)) s.1)
        (λ (s : (x y : ℕ) × (c : C) × Reached x y × is_cause x y c × (leads_to c ≡ Some (l.item, l.rule))).
        absurd (done.listed.links.linked a l ((s.0, s.1), s.2) at (s.3, s.4, tt) s.5 is))
        (at_first l.item l.rule (done.listed.links.reached a l at).0)
    under a l at (Some u) is = let h = done.listed.links.under a l u at is in (h.0, h.1, h.2.1, h.3)

    pub all_listed : AreReasons leads_to is_cause i r most rs
    all_listed = record {
      linked = λ a l at. under a l at l.up refl;
      within = done.listed.told.within;
      all = done.listed.all;
      sound = λ k e at. let h = done.listed.told.sound k e at in record { reached = h.0.0; cause = h.0.1; leaf = h.1 };
      complete = λ e h. done.listed.told.complete e (h.reached, h.cause, tt) h.leaf;
      once = done.listed.told.once;
      in_order = done.listed.told.in_order;
      told = done.listed.told.told;
      count = done.listed.told.count;
      some = let h = done.some i r IsReached.first tt in let c = done.listed.told.count in omega arith;
    }
