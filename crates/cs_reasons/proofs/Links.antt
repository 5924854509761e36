-- Links stay in order, and each has what leads to it as far as causes are done.
use Rattle.std.proofs.Common.{◌≡◌, ◌≢◌, ℕ, ◌<◌, ◌≤◌, ◌+◌, ◌⊎◌, ⊎_elim, inl, inr, List, [], ◌∷◌, ◌++◌, length, Option, Some, None, ap, ◌∙◌, sym, subst, refl, arith}
use Rattle.std.specs.Prelude.{slice_get, slice_set}
use Rattle.std.proofs.lemmas.Bool.{cases_eq, cases_lt}
use Rattle.std.proofs.lemmas.List.{length-set}
use Rattle.std.proofs.lemmas.Option.{slice_get_within}
use Rattle.cs_table.specs.Judged.{IsEarlier}
use Rattle.cs_reasons.specs.Told.{pair_of, pair_at}
use Rattle.cs_reasons.specs.Listed.{AreInOrder, IsLinkAt, IsLast, AreLinks}
use Rattle.cs_reasons.specs.Passed.{IsUpTo}
use Rattle.cs_reasons.specs.declared.reasons.Link.{Link}
use Rattle.cs_reasons.specs.declared.reasons.Up.{Up}
use Rattle.cs_reasons.proofs.Lists.{some_same, at_front, at_either, at_set, at_other, length_more, is_there}
use Rattle.cs_reasons.proofs.Pairs.{earlier_trans, not_earlier}

-- one more is done
abbrev pub More : {E : Type 0} → (E → Type 0) → E → E → Type 0
More D x e = D e ⊎ (e ≡ x)

-- the pairs of the links stay
abbrev pub PairsStay : {C : Type 0} → List (Link C) → List (Link C) → Type 0
PairsStay old new = (length old ≤ length new) × ((k : ℕ) → k < length old → pair_at new k ≡ pair_at old k)

module _ {C : Type 0} where
  abbrev pub no_up_yet : ℕ → ℕ → Link C
  no_up_yet n k = record { item = n; rule = k; up = None; as_close = 0 }

  pub last_stays : (old links : List (Link C)) (n k a : ℕ) → IsLast old links n k a → PairsStay old links
  last_stays old links n k a (inl h) = (subst (λ xs. length old ≤ length xs) (sym h.0) (omega arith), λ b l. ap (λ xs. pair_at xs b) h.0)
  last_stays old links n k a (inr h) = (
    subst (λ xs. length old ≤ length xs) (sym h.0) (let e = length_more old (no_up_yet n k) in omega arith),
    λ b l. ap (λ xs. pair_at xs b) h.0 ∙ (let x = is_there old b l in ap (λ o. pair_of o) (at_front old (no_up_yet n k ∷ []) b x.0 x.1 ∙ sym x.1)),
  )

  pub both_stay : (a b d : List (Link C)) → PairsStay a b → PairsStay b d → PairsStay a d
  both_stay a b d x y = ((let u = x.0 in let v = y.0 in omega arith), λ k l. y.1 k (let u = x.0 in omega arith) ∙ x.1 k l)

  pub none_moved : (a : List (Link C)) → PairsStay a a
  none_moved a = (omega arith, λ k l. refl)

  -- a link of which what leads to it is set
  module _ (links : List (Link C)) (a : ℕ) (l : Link C) (is : slice_get links a ≡ Some l) (u : Up C) where
    abbrev pub now_up : Link C
    now_up = record { item = l.item; rule = l.rule; up = Some u; as_close = l.as_close }

    abbrev pub set_links : List (Link C)
    set_links = slice_set links a now_up

    there : a < length links
    there = slice_get_within links a l is

    pub length_kept : length set_links ≡ length links
    length_kept = length-set links a now_up

    pub link_of : (x : ℕ) (m : Link C) → slice_get set_links x ≡ Some m → ((x ≡ a) × (m ≡ now_up)) ⊎ ((x ≢ a) × (slice_get links x ≡ Some m))
    link_of x m e = ⊎_elim
        (λ (s : x ≡ a). inl (s, some_same m now_up (sym e ∙ ap (λ y. slice_get set_links y) s ∙ at_set links a now_up there)))
        (λ (s : x ≢ a). inr (s, sym (at_other links a now_up x s) ∙ e))
        (cases_eq x a)

    pub set_stays : PairsStay links set_links
    set_stays = (
      (let e = length_kept in omega arith),
      λ k h. ⊎_elim
          (λ (s : k ≡ a). ap (λ y. pair_at set_links y) s ∙ ap (λ o. pair_of o) (at_set links a now_up there) ∙ ap (λ o. pair_of o) (sym is) ∙ ap (λ y. pair_at links y) (sym s))
          (λ (s : k ≢ a). ap (λ o. pair_of o) (at_other links a now_up k s))
          (cases_eq k a),
    )

    -- the link that was there has the same pair
    pub was : (x : ℕ) (m : Link C) → slice_get set_links x ≡ Some m → (o : Link C) × (slice_get links x ≡ Some o) × (o.item ≡ m.item) × (o.rule ≡ m.rule)
    was x m e = ⊎_elim
        (λ (s : (x ≡ a) × (m ≡ now_up)). (l, ap (λ y. slice_get links y) s.0 ∙ is, ap (λ (y : Link C). y.item) (sym s.1), ap (λ (y : Link C). y.rule) (sym s.1)))
        (λ (s : (x ≢ a) × (slice_get links x ≡ Some m)). (m, s.1, refl, refl))
        (link_of x m e)

pub moved : (a b i r j q k s : ℕ) → a ≡ j → b ≡ q → i ≡ k → r ≡ s → IsEarlier a b i r → IsEarlier j q k s
moved a b i r j q k s e f g h l = subst (λ x. IsEarlier x q k s) e (subst (λ x. IsEarlier a x k s) f (subst (λ x. IsEarlier a b x s) g (subst (λ x. IsEarlier a b i x) h l)))

module _ {C : Type 0} (leads_to : C → Option (ℕ × ℕ)) (R : ℕ → ℕ → Type 0) (D : (ℕ × ℕ) × C → Type 0) (n k : ℕ) (here : R n k) (upto : (j q : ℕ) → R j q → IsUpTo j q n k) where
  -- no cause that is done leads to the pair n, k
  abbrev pub AreAhead : Type 0
  AreAhead = (e : (ℕ × ℕ) × C) → D e → leads_to e.1 ≡ Some (n, k) → ⊥

  module _ (old : List (Link C)) (links : AreLinks leads_to R D old) where
    -- a link that is not that of the pair n, k is one of an earlier pair, where the last one isn't that of n, k either
    before_last : ((b : ℕ) → length old ≡ b + 1 → ¬ (IsLinkAt old b n k)) → (x : ℕ) (l : Link C) → slice_get old x ≡ Some l → IsEarlier l.item l.rule n k
    before_last other x l is = ⊎_elim
        (λ (h : IsEarlier l.item l.rule n k). h)
        (λ (h : (l.item ≡ n) × (l.rule ≡ k)).
        let inside = slice_get_within old x l is in
        ⊎_elim
        (λ (s : length old ≡ x + 1). absurd (other x s (l, is, h.0, h.1)))
        (λ (s : length old ≢ x + 1).
        let m = is_there old (x + 1) (omega arith) in
        let o = links.in_order x (x + 1) l m.0 (omega arith) is m.1 in
        absurd (⊎_elim
        (λ (v : IsEarlier m.0.item m.0.rule n k). not_earlier n k (moved l.item l.rule n k n k n k h.0 h.1 refl refl (earlier_trans l.item l.rule m.0.item m.0.rule n k o v)))
        (λ (v : (m.0.item ≡ n) × (m.0.rule ≡ k)). not_earlier n k (moved l.item l.rule m.0.item m.0.rule n k n k h.0 h.1 v.0 v.1 o))
        (upto m.0.item m.0.rule (links.reached (x + 1) m.0 m.1))))
        (cases_eq (length old) (x + 1)))
        (upto l.item l.rule (links.reached x l is))

    module _ (other : (b : ℕ) → length old ≡ b + 1 → ¬ (IsLinkAt old b n k)) (ahead : AreAhead) where
      abbrev new : List (Link C)
      new = old ++ no_up_yet n k ∷ []

      IsNew : ℕ → Link C → Type 0
      IsNew b m = (b ≡ length old) × (m ≡ no_up_yet n k)

      new_order : AreInOrder new
      new_order a b l m lt at bt = ⊎_elim
          (λ (y : slice_get old b ≡ Some m). ⊎_elim
          (λ (x : slice_get old a ≡ Some l). links.in_order a b l m lt x y)
          (λ (x : (a ≡ length old) × (l ≡ no_up_yet n k)). let h = slice_get_within old b m y in let s = x.0 in absurd (omega arith))
          (at_either old (no_up_yet n k) a l at))
          (λ (y : (b ≡ length old) × (m ≡ no_up_yet n k)). ⊎_elim
          (λ (x : slice_get old a ≡ Some l). subst (λ (z : Link C). IsEarlier l.item l.rule z.item z.rule) (sym y.1) (before_last other a l x))
          (λ (x : (a ≡ length old) × (l ≡ no_up_yet n k)). let s = x.0 in let t = y.0 in absurd (omega arith))
          (at_either old (no_up_yet n k) a l at))
          (at_either old (no_up_yet n k) b m bt)

      stays : PairsStay old new
      stays = last_stays old new n k (length old) (inr (refl, refl, other))

      pub added : AreLinks leads_to R D new
      added = record {
        in_order = new_order;
        reached = λ a l at. ⊎_elim
            (λ (x : slice_get old a ≡ Some l). links.reached a l x)
            (λ (x : (a ≡ length old) × (l ≡ no_up_yet n k)). subst (λ (z : Link C). R z.item z.rule) (sym x.1) here)
            (at_either old (no_up_yet n k) a l at);
        under = λ a l u at up. ⊎_elim
            (λ (x : slice_get old a ≡ Some l).
            let h = links.under a l u x up in
            (h.0, (let v = h.1 in let w = stays.0 in omega arith), subst (λ p. D (p, u.cause)) (sym (stays.1 u.link h.1)) h.2, h.3))
            (λ (x : (a ≡ length old) × (l ≡ no_up_yet n k)). let e : None ≡ Some u = ap (λ (z : Link C). z.up) (sym x.1) ∙ up in absurd (cc))
            (at_either old (no_up_yet n k) a l at);
        linked = λ a l e at d lead. ⊎_elim
            (λ (x : slice_get old a ≡ Some l). links.linked a l e x d lead)
            (λ (x : (a ≡ length old) × (l ≡ no_up_yet n k)). absurd (ahead e d (lead ∙ ap (λ (z : Link C). Some (z.item, z.rule)) x.1)))
            (at_either old (no_up_yet n k) a l at);
      }

    pub with_last : (now : List (Link C)) (a : ℕ) → IsLast old now n k a → AreAhead → AreLinks leads_to R D now
    with_last now a (inl h) ahead = subst (λ xs. AreLinks leads_to R D xs) (sym h.0) links
    with_last now a (inr h) ahead = subst (λ xs. AreLinks leads_to R D xs) (sym h.0) (added h.2 ahead)

    module _ (c : C) where
      -- a cause that leads to no link without an up is done
      pub one_done : ((a : ℕ) (l : Link C) → slice_get old a ≡ Some l → leads_to c ≡ Some (l.item, l.rule) → ¬ (l.up ≡ None)) → AreLinks leads_to R (More D ((n, k), c)) old
      one_done none = record {
        in_order = links.in_order;
        reached = links.reached;
        under = λ a l u at up. let h = links.under a l u at up in (h.0, h.1, inl h.2, h.3);
        linked = λ a l e at d lead. ⊎_elim
            (λ (x : D e). links.linked a l e at x lead)
            (λ (x : e ≡ ((n, k), c)). none a l at (ap (λ y. leads_to y.1) (sym x) ∙ lead))
            d;
      }

      -- a cause that leads to a link is what leads to it now
      module _ (a b : ℕ) (l : Link C) (at : slice_get old a ≡ Some l) (last : IsLinkAt old b n k) (lead : leads_to c ≡ Some (l.item, l.rule)) (first : IsEarlier l.item l.rule n k) where
        abbrev up : Up C
        up = record { link = b; cause = c }

        abbrev pub done_links : List (Link C)
        done_links = set_links old a l at up

        comes_before : a < b
        comes_before =
            let m = last.0 in
            let to_m = moved l.item l.rule n k l.item l.rule m.item m.rule refl refl (sym last.2) (sym last.3) first in
            ⊎_elim
            (λ (h : a < b). h)
            (λ (h : b ≤ a). ⊎_elim
            (λ (s : a ≡ b).
            let e : m ≡ l = some_same m l (sym last.1 ∙ ap (λ x. slice_get old x) (sym s) ∙ at) in
            absurd (not_earlier l.item l.rule (subst (λ (z : Link C). IsEarlier l.item l.rule z.item z.rule) e to_m)))
            (λ (s : a ≢ b). absurd (not_earlier l.item l.rule (earlier_trans l.item l.rule m.item m.rule l.item l.rule to_m (links.in_order b a m l (omega arith) last.1 at))))
            (cases_eq a b))
            (cases_lt a b)

        pair_of_up : pair_at done_links b ≡ (n, k)
        pair_of_up =
            (set_stays old a l at up).1 b (slice_get_within old b last.0 last.1)
            ∙ ap (λ o. pair_of o) last.1 ∙ ap (λ x. (x, last.0.rule)) last.2 ∙ ap (λ x. (n, x)) last.3

        pair_same : (x y i r : ℕ) → leads_to c ≡ Some (i, r) → (l.item ≡ i) × (l.rule ≡ r)
        pair_same x y i r e =
            let p : ℕ × ℕ = (l.item, l.rule) in
            let q : ℕ × ℕ = (i, r) in
            let h : p ≡ q = some_same p q (sym lead ∙ e) in
            (ap (λ z. z.0) h, ap (λ z. z.1) h)

        pub lead_done : AreLinks leads_to R (More D ((n, k), c)) done_links
        lead_done = record {
          in_order = λ x y v w lt vt wt.
              let p = was old a l at up x v vt in
              let q = was old a l at up y w wt in
              moved p.0.item p.0.rule q.0.item q.0.rule v.item v.rule w.item w.rule p.2 p.3 q.2 q.3 (links.in_order x y p.0 q.0 lt p.1 q.1);
          reached = λ x v vt.
              let p = was old a l at up x v vt in
              subst (λ z. R z v.rule) p.2 (subst (λ z. R p.0.item z) p.3 (links.reached x p.0 p.1));
          under = λ x v u vt is. ⊎_elim
              (λ (s : (x ≡ a) × (v ≡ now_up old a l at up)).
              let e : u ≡ up = some_same u up (sym is ∙ ap (λ (z : Link C). z.up) s.1) in (
                subst (λ z. z < u.link) (sym s.0) (subst (λ (z : Up C). a < z.link) (sym e) comes_before),
                subst (λ (z : Up C). z.link < length done_links) (sym e) (let h = slice_get_within old b last.0 last.1 in let n = length_kept old a l at up in omega arith),
                inr (ap (λ (z : Up C). (pair_at done_links z.link, z.cause)) e ∙ ap (λ p. (p, c)) pair_of_up),
                ap (λ (z : Up C). leads_to z.cause) e ∙ lead ∙ ap (λ (z : Link C). Some (z.item, z.rule)) (sym s.1),
              ))
              (λ (s : (x ≢ a) × (slice_get old x ≡ Some v)).
              let h = links.under x v u s.1 is in
              (h.0, (let m = h.1 in let n = length_kept old a l at up in omega arith), inl (subst (λ p. D (p, u.cause)) (sym ((set_stays old a l at up).1 u.link h.1)) h.2), h.3))
              (link_of old a l at up x v vt);
          linked = λ x v e vt d leads none. ⊎_elim
              (λ (s : (x ≡ a) × (v ≡ now_up old a l at up)). let f : Some up ≡ None = ap (λ (z : Link C). z.up) (sym s.1) ∙ none in absurd (cc))
              (λ (s : (x ≢ a) × (slice_get old x ≡ Some v)). ⊎_elim
              (λ (y : D e). links.linked x v e s.1 y leads none)
              (λ (y : e ≡ ((n, k), c)).
              let same = pair_same x a v.item v.rule (ap (λ z. leads_to z.1) (sym y) ∙ leads) in
              ⊎_elim
              (λ (lt : x < a). not_earlier v.item v.rule (moved v.item v.rule l.item l.rule v.item v.rule v.item v.rule refl refl same.0 same.1 (links.in_order x a v l lt s.1 at)))
              (λ (ge : a ≤ x). not_earlier v.item v.rule (moved l.item l.rule v.item v.rule v.item v.rule v.item v.rule same.0 same.1 refl refl (links.in_order a x l v (let ne = s.0 in omega arith) at s.1)))
              (cases_lt x a))
              d)
              (link_of old a l at up x v vt);
        }
