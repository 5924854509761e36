-- A cause more is listed, and in the end all are.
use Rattle.std.proofs.Common.{◌≡◌, ℕ, inl, inr, List, Option, Some, None, ap, ◌∙◌, sym, subst, refl}
use Rattle.std.specs.Prelude.{slice_get}
use Rattle.cs_table.specs.Judged.{IsEarlier}
use Rattle.cs_reasons.specs.Listed.{IsTold, IsUpFor, IsListed, AreLinks, AreListed}
use Rattle.cs_reasons.specs.Passed.{IsUpTo}
use Rattle.cs_reasons.specs.declared.reasons.Link.{Link}
use Rattle.cs_reasons.specs.declared.reasons.Reasons.{Reasons}
use Rattle.cs_reasons.proofs.Links.{More, PairsStay, AreAhead, last_stays, both_stay, none_moved, set_stays, with_last, one_done, lead_done}
use Rattle.cs_reasons.proofs.Lists.{some_same}
use Rattle.cs_reasons.proofs.Tellings.{relinked, pair_done, leaf_done, more}
use Rattle.cs_reasons.proofs.Ups.{last_keeps, last_is}

module _ {C : Type 0} (leads_to : C → Option (ℕ × ℕ)) (R : ℕ → ℕ → Type 0) where
  -- what is done can be said in another way
  pub same_done : (D E : (ℕ × ℕ) × C → Type 0) → ((e : (ℕ × ℕ) × C) → D e → E e) → ((e : (ℕ × ℕ) × C) → E e → D e) → (S : ℕ → ℕ → Type 0) → ((i r : ℕ) → R i r → S i r) → (most : ℕ) (rs : Reasons C)
      → AreListed leads_to R D most rs → AreListed leads_to S E most rs
  same_done D E to from S still most rs h = record {
    links = record {
      in_order = h.links.in_order;
      reached = λ a l at. still l.item l.rule (h.links.reached a l at);
      under = λ a l u at up. let x = h.links.under a l u at up in (x.0, x.1, to _ x.2, x.3);
      linked = λ a l e at d lead. h.links.linked a l e at (from e d) lead;
    };
    all = h.all;
    told = record {
      sound = λ k e at. let x = h.told.sound k e at in (to e x.0, x.1);
      complete = λ e d leaf. h.told.complete e (from e d) leaf;
      once = h.told.once;
      in_order = h.told.in_order;
      within = h.told.within;
      told = h.told.told;
      count = h.told.count;
    };
  }

  module _ (D : (ℕ × ℕ) × C → Type 0) (n k most : ℕ) (here : R n k) (upto : (j q : ℕ) → R j q → IsUpTo j q n k) (ahead : AreAhead leads_to R D n k here upto) (c : C) (fresh : ¬ (D ((n, k), c)))
      (behind : (e : (ℕ × ℕ) × C) → D e → ¬ (IsEarlier n k e.0.0 e.0.1))
      (own : (j q : ℕ) → leads_to c ≡ Some (j, q) → IsEarlier j q n k) (rs now : Reasons C) (h : AreListed leads_to R D most rs) where
    none_leads : leads_to c ≡ None → (links : List (Link C)) (a : ℕ) (l : Link C) → slice_get links a ≡ Some l → leads_to c ≡ Some (l.item, l.rule) → ¬ (l.up ≡ None)
    none_leads leaf links a l at lead = let x = sym leaf ∙ lead in absurd (cc)

    links_after : leads_to c ≡ None → IsTold most n k c rs now → AreLinks leads_to R (More D ((n, k), c)) now.links.items
    links_after leaf (count, inl t) = subst (λ ls. AreLinks leads_to R (More D ((n, k), c)) ls) (sym t.1)
        (one_done leads_to R D n k here upto rs.links.items h.links c (none_leads leaf rs.links.items))
    links_after leaf (count, inr t) = one_done leads_to R D n k here upto now.links.items (with_last leads_to R D n k here upto rs.links.items h.links now.links.items t.0 t.2 ahead) c (none_leads leaf now.links.items)

    tell_more : leads_to c ≡ None → IsTold most n k c rs now → AreListed leads_to R (More D ((n, k), c)) most now
    tell_more leaf told = record {
      links = links_after leaf told;
      all = more leads_to R D most h.all rs h.told n k c leaf fresh behind;
      told = leaf_done leads_to R D most h.all rs h.told n k c leaf fresh behind now told;
    }

    same_pair : (l : Link C) (p : ℕ × ℕ) → leads_to c ≡ Some p → l.item ≡ p.0 → l.rule ≡ p.1 → leads_to c ≡ Some (l.item, l.rule)
    same_pair l p lead e f = lead ∙ ap (λ x. Some (x, p.1)) (sym e) ∙ ap (λ y. Some (l.item, y)) (sym f)

    one_pair : (l : Link C) (p : ℕ × ℕ) → leads_to c ≡ Some p → leads_to c ≡ Some (l.item, l.rule) → (l.item ≡ p.0) × (l.rule ≡ p.1)
    one_pair l p lead e =
        let q : ℕ × ℕ = (l.item, l.rule) in
        let s : q ≡ p = some_same q p (sym e ∙ lead) in
        (ap (λ z. z.0) s, ap (λ z. z.1) s)

    up_links : (p : ℕ × ℕ) → leads_to c ≡ Some p → IsUpFor n k c p.0 p.1 rs.links.items now.links.items → AreLinks leads_to R (More D ((n, k), c)) now.links.items × PairsStay rs.links.items now.links.items
    up_links p lead (inl u) = (
      subst (λ ls. AreLinks leads_to R (More D ((n, k), c)) ls) (sym u.0) (one_done leads_to R D n k here upto rs.links.items h.links c (λ a l at e. let s = one_pair l p lead e in u.1 h.links.in_order a l at s.0 s.1)),
      subst (λ ls. PairsStay rs.links.items ls) (sym u.0) (none_moved rs.links.items),
    )
    up_links p lead (inr u) =
        let a = u.0 in
        let b = u.1 in
        let l = u.2 in
        let ls = u.3 in
        let at = last_keeps rs.links.items ls n k b u.8 a l u.4 in
        let links = with_last leads_to R D n k here upto rs.links.items h.links ls b u.8 ahead in
        let to_l = same_pair l p lead u.5 u.6 in (
          subst (λ xs. AreLinks leads_to R (More D ((n, k), c)) xs) (sym u.9) (lead_done leads_to R D n k here upto ls links c a b l at (last_is rs.links.items ls n k b u.8) to_l (own l.item l.rule to_l)),
          subst (λ xs. PairsStay rs.links.items xs) (sym u.9) (both_stay rs.links.items ls _ (last_stays rs.links.items ls n k b u.8) (set_stays ls a l at (record { link = b; cause = c }))),
        )

    lead_more : (p : ℕ × ℕ) → leads_to c ≡ Some p → IsListed most n k c (Some p) rs now → AreListed leads_to R (More D ((n, k), c)) most now
    lead_more p lead step =
        let ups = up_links p lead step.2 in
        record {
          links = ups.0;
          all = h.all;
          told = pair_done leads_to R D most h.all now (relinked leads_to R D most h.all rs h.told now step.0 step.1 ups.1) n k c p lead;
        }

    by_lead : (o : Option (ℕ × ℕ)) → leads_to c ≡ o → IsListed most n k c o rs now → AreListed leads_to R (More D ((n, k), c)) most now
    by_lead None leaf step = tell_more leaf step
    by_lead (Some p) lead step = lead_more p lead step

    pub listed_more : IsListed most n k c (leads_to c) rs now → AreListed leads_to R (More D ((n, k), c)) most now
    listed_more step = by_lead (leads_to c) refl step
