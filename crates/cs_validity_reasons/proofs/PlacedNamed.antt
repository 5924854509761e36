-- Causes without texts name causes over numbers.
use Rattle.std.proofs.Common.{◌≡◌, ℕ, Bool, true, false, List, [], Some, map, Contains, refl, sym, ap, ◌∙◌, subst}
use Rattle.std.proofs.lemmas.Option.{get_or_from_slice_get}
use Rattle.cs_document.specs.Document.{Entry}
use Rattle.cs_document.specs.Opened.{Opened, a_null}
use Rattle.cs_flat.specs.Nodes.{node_at}
use Rattle.cs_flat.specs.Listed.{values}
use Rattle.cs_table.specs.Judged.{AllVerdicts}
use Rattle.cs_reasons.specs.Reasons.{IsFollowed}
use Rattle.cs_validity_reasons.specs.Causes as cause
use Rattle.cs_validity_reasons.specs.Causes.{IsCause}
use Rattle.cs_validity_reasons.specs.NumberedCauses.{NumberedCause, IsNumberedCause}
use Rattle.cs_validity_reasons.specs.Led.{PlacedCause, leads_to, is_alternative}
use Rattle.cs_validity_reasons.specs.PlacedCauses.{members_in, required_in, named_in, IsKeyed, StaysAt, IsPlacedCause}
use Rattle.cs_validity_reasons.specs.PlacedTold.{keyed, item_at, rule_at, cause_at}
use Rattle.cs_validate.specs.Steps.{numbered}
use Rattle.cs_validity_reasons.specs.Why.{led}
use Rattle.cs_validate.specs.declared.rules.Rule.{Rule as Coded}
use Rattle.cs_validate.specs.declared.rules.Rule.TheVariants as rule
use Rattle.cs_validity_reasons.specs.declared.cause.KeyedCause.TheVariants.{Reference, Part, Alternative, Property, Additional, Prefix, Items, Never, Missing, Keyword, NoAlternative}
use Rattle.cs_validity_reasons.proofs.Contained.{place_of, got_map, got_map_back}
use Rattle.cs_validity_reasons.proofs.Parts.{property_declared, missing_required, additional_there}
use Rattle.cs_validity_reasons.proofs.Tells.{AreNamed, AreFollowed, all_followed, closest_followed}

is_keyed : (ms : List (Entry ℕ)) (ks : List (List ℕ)) (ps : List (Entry ℕ)) (c : PlacedCause) (n : NumberedCause) → IsKeyed ms ks ps c n → n ≡ keyed ms ks ps c
is_keyed ms ks ps (Reference item q) n h = h
is_keyed ms ks ps (Part item q place) n h = h
is_keyed ms ks ps (Alternative item q place) n h = h
is_keyed ms ks ps (Property place item q) n h = h.2 ∙ ap (λ (e : Entry ℕ). cause.property e.0 item q) (sym (get_or_from_slice_get ps place (h.0, q) ([], 0) h.1))
is_keyed ms ks ps (Additional place item q) n h = h.2 ∙ ap (λ (e : Entry ℕ). cause.additional e.0 item q) (sym (get_or_from_slice_get ms place (h.0, item) ([], 0) h.1))
is_keyed ms ks ps (Prefix place item q) n h = h
is_keyed ms ks ps (Items place item q) n h = h
is_keyed ms ks ps Never n h = h
is_keyed ms ks ps (Missing place) n h = h.2 ∙ ap cause.missing (sym (get_or_from_slice_get ks place h.0 [] h.1))
is_keyed ms ks ps (Keyword w) n h = h
is_keyed ms ks ps NoAlternative n h = h

led_keyed : (ms : List (Entry ℕ)) (ks : List (List ℕ)) (ps : List (Entry ℕ)) (i : ℕ) (c : PlacedCause) → StaysAt i c → leads_to c ≡ led i (keyed ms ks ps c)
led_keyed ms ks ps i (Reference item q) h = ap (λ j. Some (j, q)) h
led_keyed ms ks ps i (Part item q place) h = ap (λ j. Some (j, q)) h
led_keyed ms ks ps i (Alternative item q place) h = ap (λ j. Some (j, q)) h
led_keyed ms ks ps i (Property place item q) h = refl
led_keyed ms ks ps i (Additional place item q) h = refl
led_keyed ms ks ps i (Prefix place item q) h = refl
led_keyed ms ks ps i (Items place item q) h = refl
led_keyed ms ks ps i Never h = refl
led_keyed ms ks ps i (Missing place) h = refl
led_keyed ms ks ps i (Keyword w) h = refl
led_keyed ms ks ps i NoAlternative h = refl

module _ (f : AllVerdicts) (xs : List (Opened ℕ)) (rules : List Coded) (inner : List ℕ) where
  -- by the pair that it is of
  abbrev pub named : ℕ × ℕ → PlacedCause → NumberedCause
  named p c = cause_at xs rules inner p c

  pub named_is : (i r : ℕ) (c : PlacedCause) (h : IsPlacedCause f xs rules inner i r c) → h.named ≡ named (i, r) c
  named_is i r c h =
      let x : item_at xs i ≡ h.value = get_or_from_slice_get xs i h.value a_null h.at_item in
      let a : rule_at rules r ≡ h.asks = get_or_from_slice_get rules r h.asks (rule.Truth false) h.at_rule in
      is_keyed (members_in h.value) (required_in h.asks) (named_in inner h.asks) c h.named h.keyed
      ∙ ap (λ v. keyed (members_in v) (required_in h.asks) (named_in inner h.asks) c) (sym x)
      ∙ ap (λ b. keyed (members_in (item_at xs i)) (required_in b) (named_in inner b) c) (sym a)

  sound_of : (i r : ℕ) (c : PlacedCause) → IsPlacedCause f xs rules inner i r c → IsNumberedCause f xs (map (numbered inner) rules) i r (named (i, r) c)
  sound_of i r c h =
      record {
        value = h.value;
        rule = numbered inner h.asks;
        at_item = h.at_item;
        at_rule = got_map (numbered inner) rules r h.asks h.at_rule;
        cause = subst (IsCause (f i) f (node_at (values xs) i) h.value (numbered inner h.asks)) (named_is i r c h) h.cause;
      }

  -- a cause over numbers, by its places
  abbrev Placed : ℕ → Opened ℕ → Coded → NumberedCause → Type 0
  Placed i x a n = (c : PlacedCause) × StaysAt i c × IsKeyed (members_in x) (required_in a) (named_in inner a) c n

  missing_place : (i : ℕ) (x : Opened ℕ) (a : Coded) (k : List ℕ) → IsCause (f i) f (node_at (values xs) i) x (numbered inner a) (cause.missing k) → Placed i x a (cause.missing k)
  missing_place i x (rule.Truth true) k h = elim h [ ]
  missing_place i x (rule.Truth false) k h = elim h [ ]
  missing_place i x (rule.Object c) k h = let p = place_of c.required k (missing_required c inner (f i) f (node_at (values xs) i) x h) in (Missing p.0, tt, (k, p.1, refl))

  property_place : (i : ℕ) (x : Opened ℕ) (a : Coded) (k : List ℕ) (y q : ℕ) → IsCause (f i) f (node_at (values xs) i) x (numbered inner a) (cause.property k y q) → Placed i x a (cause.property k y q)
  property_place i x (rule.Truth true) k y q h = elim h [ ]
  property_place i x (rule.Truth false) k y q h = elim h [ ]
  property_place i x (rule.Object c) k y q h =
      let p = place_of (named_in inner (rule.Object c)) (k, q) (property_declared c inner (f i) f (node_at (values xs) i) x h) in (Property p.0 y q, tt, (k, p.1, refl))

  additional_place : (i : ℕ) (x : Opened ℕ) (a : Coded) (k : List ℕ) (y q : ℕ) → IsCause (f i) f (node_at (values xs) i) x (numbered inner a) (cause.additional k y q) → Placed i x a (cause.additional k y q)
  additional_place i x a k y q h =
      let t = additional_there (f i) f (node_at (values xs) i) x (numbered inner a) h in
      let p = place_of (members_in x) (k, y) (subst (λ z. Contains (members_in z) (k, y)) (sym t.1) t.2) in
      (Additional p.0 y q, tt, (k, p.1, refl))

  placed : (i : ℕ) (x : Opened ℕ) (a : Coded) (n : NumberedCause) → IsCause (f i) f (node_at (values xs) i) x (numbered inner a) n → Placed i x a n
  placed i x a (cause.reference q) h = (Reference i q, refl, refl)
  placed i x a (cause.part k q) h = (Part i q k, refl, refl)
  placed i x a (cause.alternative k q) h = (Alternative i q k, refl, refl)
  placed i x a (cause.property k y q) h = property_place i x a k y q h
  placed i x a (cause.additional k y q) h = additional_place i x a k y q h
  placed i x a (cause.prefix k y q) h = (Prefix k y q, tt, refl)
  placed i x a (cause.items k y q) h = (Items k y q, tt, refl)
  placed i x a cause.never_valid h = (Never, tt, refl)
  placed i x a cause.no_alternative h = (NoAlternative, tt, refl)
  placed i x a (cause.missing k) h = missing_place i x a k h
  placed i x a (cause.by_keyword w) h = (Keyword w, tt, refl)

  complete_of : (i r : ℕ) (n : NumberedCause) → IsNumberedCause f xs (map (numbered inner) rules) i r n → (c : PlacedCause) × IsPlacedCause f xs rules inner i r c × (named (i, r) c ≡ n)
  complete_of i r n h =
      let a = got_map_back (numbered inner) rules r h.rule h.at_rule in
      let given : IsCause (f i) f (node_at (values xs) i) h.value (numbered inner a.0) n = subst (λ k. IsCause (f i) f (node_at (values xs) i) h.value k n) (sym a.2) h.cause in
      let c = placed i h.value a.0 n given in
      let is : IsPlacedCause f xs rules inner i r c.0 = record { value = h.value; asks = a.0; named = n; at_item = h.at_item; at_rule = a.1; stays = c.1; keyed = c.2; cause = given } in
      (c.0, is, sym (named_is i r c.0 is))

  pub are_named : AreNamed leads_to (IsPlacedCause f xs rules inner) named f xs (map (numbered inner) rules)
  are_named = record { sound = sound_of; leads = λ i r c h. led_keyed (members_in (item_at xs i)) (required_in (rule_at rules r)) (named_in inner (rule_at rules r)) i c h.stays; complete = complete_of }

  -- that no alternative holds, and alternatives
  pub only_none : (p : ℕ × ℕ) (c : PlacedCause) → named p c ≡ cause.no_alternative → c ≡ NoAlternative
  only_none p (Reference item q) e = cc
  only_none p (Part item q place) e = cc
  only_none p (Alternative item q place) e = cc
  only_none p (Property place item q) e = cc
  only_none p (Additional place item q) e = cc
  only_none p (Prefix place item q) e = cc
  only_none p (Items place item q) e = cc
  only_none p Never e = cc
  only_none p (Missing place) e = cc
  only_none p (Keyword w) e = cc
  only_none p NoAlternative e = refl

  pub alternatives : (p : ℕ × ℕ) (c : PlacedCause) → is_alternative c ≡ true → (k : ℕ) × (q : ℕ) × (named p c ≡ cause.alternative k q)
  alternatives p (Alternative item q place) e = (place, q, refl)
  alternatives p _ e = cc

  pub shown_alternative : (p : ℕ × ℕ) (c : PlacedCause) (k q : ℕ) → named p c ≡ cause.alternative k q → is_alternative c ≡ true
  shown_alternative p (Reference item r) k q e = cc
  shown_alternative p (Part item r place) k q e = cc
  shown_alternative p (Alternative item r place) k q e = refl
  shown_alternative p (Property place item r) k q e = cc
  shown_alternative p (Additional place item r) k q e = cc
  shown_alternative p (Prefix place item r) k q e = cc
  shown_alternative p (Items place item r) k q e = cc
  shown_alternative p Never k q e = cc
  shown_alternative p (Missing place) k q e = cc
  shown_alternative p (Keyword w) k q e = cc
  shown_alternative p NoAlternative k q e = cc

  -- where every cause is followed, and where of alternatives the closest ones are
  pub follows_all : (one_by_one : Bool) → AreFollowed leads_to (IsPlacedCause f xs rules inner) (IsPlacedCause f xs rules inner) named one_by_one
  follows_all one_by_one = all_followed leads_to (IsPlacedCause f xs rules inner) named one_by_one

  pub follows_closest : (chosen : AllVerdicts) → AreFollowed leads_to (IsPlacedCause f xs rules inner) (IsFollowed leads_to (IsPlacedCause f xs rules inner) is_alternative NoAlternative chosen) named false
  follows_closest chosen = closest_followed leads_to (IsPlacedCause f xs rules inner) named is_alternative NoAlternative chosen refl (λ p. refl) only_none alternatives shown_alternative are_named.leads
