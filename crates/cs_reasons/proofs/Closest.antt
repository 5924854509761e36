-- Alternatives are kept one by one, and counting how many are as close changes no reason.
use Rattle.std.proofs.Common.{◌≡◌, ◌≢◌, ℕ, ◌<◌, ⊎_elim, Bool, true, List, [], ◌∷◌, ◌++◌, length, map, get_or, Option, Some, None, ap, ◌∙◌, sym, subst, refl, arith}
use Rattle.std.specs.Prelude.{slice_get, slice_set}
use Rattle.std.proofs.lemmas.Bool.{cases_eq}
use Rattle.std.proofs.lemmas.List.{length-set}
use Rattle.std.proofs.lemmas.Option.{slice_get_within, slice_get_read}
use Rattle.cs_table.specs.Judged.{IsEarlier}
use Rattle.cs_reasons.specs.Closest.{AreSameLinks}
use Rattle.cs_reasons.specs.Followed.{AreAlternatives}
use Rattle.cs_reasons.specs.Told.{pair_of, pair_at, entry_of, IsUnder, AreReasons}
use Rattle.cs_reasons.specs.declared.reasons.Link.{Link}
use Rattle.cs_reasons.specs.declared.reasons.Up.{Up}
use Rattle.cs_reasons.specs.declared.reasons.Reasons.{Reasons}
use Rattle.cs_reasons.proofs.Lists.{some_same, at_either, at_set, at_other, is_there, map_agrees}

module _ {C : Type 0} (leads_to : C → Option (ℕ × ℕ)) (is_alternative : C → Bool) (cs : List C) where
  pub none_yet : (found : List C) → found ≡ [] → AreAlternatives leads_to is_alternative cs found
  none_yet found none k c at = let l = slice_get_within found k c at in let n : length found ≡ 0 = ap length none in absurd (omega arith)

  pub one_more : (found : List C) (j : ℕ) (x : C) → slice_get cs j ≡ Some x → is_alternative x ≡ true → AreAlternatives leads_to is_alternative cs found → AreAlternatives leads_to is_alternative cs (found ++ x ∷ [])
  one_more found j x is alt before k c at = ⊎_elim
      (λ (h : slice_get found k ≡ Some c). before k c h)
      (λ (h : (k ≡ length found) × (c ≡ x)). ((j, is ∙ ap (λ y. Some y) (sym h.1)), ap is_alternative h.1 ∙ alt))
      (at_either found x k c at)

module _ {C : Type 0} where
  pub same_links : (links : List (Link C)) → AreSameLinks links links
  same_links links = (refl, λ k l at. (l, at, refl, refl, refl))

  pub one_counted : (old links : List (Link C)) (k n : ℕ) (l : Link C) → k < length links → l ≡ get_or links k l → AreSameLinks old links
      → AreSameLinks old (slice_set links k (record { item = l.item; rule = l.rule; up = l.up; as_close = n }))
  one_counted old links k n l inside read before =
      let new : Link C = record { item = l.item; rule = l.rule; up = l.up; as_close = n } in
      let is = slice_get_read links (length links) k l refl inside read in (
        length-set links k new ∙ before.0,
        λ j m at. ⊎_elim
            (λ (s : j ≡ k).
            let e : m ≡ new = some_same m new (sym at ∙ ap (λ x. slice_get (slice_set links k new) x) s ∙ at_set links k new inside) in
            let h = before.1 k l is in
            (h.0, ap (λ x. slice_get old x) s ∙ h.1, h.2 ∙ ap (λ (z : Link C). z.item) (sym e), h.3 ∙ ap (λ (z : Link C). z.rule) (sym e), h.4 ∙ ap (λ (z : Link C). z.up) (sym e)))
            (λ (s : j ≢ k). before.1 j m (sym (at_other links k new j s) ∙ at))
            (cases_eq j k),
      )

  -- what holds of the pair of each link still does
  pub same_at : (P : ℕ → ℕ → Type 0) (old links : List (Link C)) → AreSameLinks old links → ((k : ℕ) (l : Link C) → slice_get old k ≡ Some l → P l.item l.rule)
      → (k : ℕ) (l : Link C) → k < length links → l ≡ get_or links k l → P l.item l.rule
  same_at P old links same holds k l inside read =
      let h = same.1 k l (slice_get_read links (length links) k l refl inside read) in
      subst (λ x. P x l.rule) h.2 (subst (λ x. P h.0.item x) h.3 (holds k h.0 h.1))

module _ {C : Type 0} (leads_to : C → Option (ℕ × ℕ)) (is_cause : ℕ → ℕ → C → Type 0) (i r most : ℕ) where
  by_up : (refused : ℕ → ℕ → Type 0) → ((j q k s : ℕ) (c : C) → is_cause j q c → leads_to c ≡ Some (k, s) → refused k s × IsEarlier k s j q) → refused i r
      → (links : List (Link C)) (k : ℕ) (l : Link C) (u : Option (Up C)) → IsUnder leads_to is_cause i r links k (l.item, l.rule) u → refused l.item l.rule
  by_up refused earlier first links k l None h = subst (λ (p : ℕ × ℕ). refused p.0 p.1) (sym h) first
  by_up refused earlier first links k l (Some u) h = (earlier (pair_at links u.link).0 (pair_at links u.link).1 l.item l.rule u.cause h.2 h.3).0

  -- the pairs of links are refused
  pub links_refused : (refused : ℕ → ℕ → Type 0) → ((j q k s : ℕ) (c : C) → is_cause j q c → leads_to c ≡ Some (k, s) → refused k s × IsEarlier k s j q) → refused i r
      → (rs : Reasons C) → AreReasons leads_to is_cause i r most rs → (k : ℕ) (l : Link C) → slice_get rs.links.items k ≡ Some l → refused l.item l.rule
  links_refused refused earlier first rs reasons k l at = by_up refused earlier first rs.links.items k l l.up (reasons.linked k l at)

  module _ (old links : List (Link C)) (same : AreSameLinks old links) where
    pair_same : (k : ℕ) → k < length old → pair_at links k ≡ pair_at old k
    pair_same k l =
        let n = same.0 in
        let m = is_there links k (omega arith) in
        let h = same.1 k m.0 m.1 in
        ap (λ o. pair_of o) m.1 ∙ ap (λ x. (x, m.0.rule)) (sym h.2) ∙ ap (λ x. (h.0.item, x)) (sym h.3) ∙ ap (λ o. pair_of o) (sym h.1)

    under_same : (k : ℕ) (p : ℕ × ℕ) (u : Option (Up C)) → IsUnder leads_to is_cause i r old k p u → IsUnder leads_to is_cause i r links k p u
    under_same k p None h = h
    under_same k p (Some u) h =
        (h.0, (let n = same.0 in let l = h.1 in omega arith), subst (λ (z : ℕ × ℕ). is_cause z.0 z.1 u.cause) (sym (pair_same u.link h.1)) h.2, h.3)

    pub same_reasons : (rs now : Reasons C) → rs.links.items ≡ old → now.links.items ≡ links → now.told.items ≡ rs.told.items → now.count ≡ rs.count → AreReasons leads_to is_cause i r most rs → AreReasons leads_to is_cause i r most now
    same_reasons rs now was is told count h = record {
      linked = λ k l at.
          let o = same.1 k l (subst (λ xs. slice_get xs k ≡ Some l) is at) in
          let u = subst (λ xs. IsUnder leads_to is_cause i r xs k (o.0.item, o.0.rule) o.0.up) was (h.linked k o.0 (subst (λ xs. slice_get xs k ≡ Some o.0) (sym was) o.1)) in
          subst (λ xs. IsUnder leads_to is_cause i r xs k (l.item, l.rule) l.up) (sym is)
          (subst (λ x. IsUnder leads_to is_cause i r links k (x, l.rule) l.up) o.2 (subst (λ x. IsUnder leads_to is_cause i r links k (o.0.item, x) l.up) o.3 (subst (λ x. IsUnder leads_to is_cause i r links k (o.0.item, o.0.rule) x) o.4 (under_same k (o.0.item, o.0.rule) o.0.up u))));
      within = λ k t at.
          let l = h.within k t (subst (λ xs. slice_get xs k ≡ Some t) told at) in
          let m : length rs.links.items ≡ length old = ap length was in
          let n : length now.links.items ≡ length links = ap length is in
          let s = same.0 in omega arith;
      all = h.all;
      sound = h.sound;
      complete = h.complete;
      once = h.once;
      in_order = h.in_order;
      told = ap (λ xs. map (entry_of xs) now.told.items) is ∙ ap (λ ts. map (entry_of links) ts) told
          ∙ map_agrees (entry_of links) (entry_of old) rs.told.items (λ k t at. ap (λ p. (p, t.cause)) (pair_same t.link (subst (λ xs. t.link < length xs) was (h.within k t at))))
          ∙ ap (λ xs. map (entry_of xs) rs.told.items) (sym was) ∙ h.told;
      count = count ∙ h.count;
      some = h.some;
    }
