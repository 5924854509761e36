-- Causes over numbers lead to earlier pairs that are refused, where parts are earlier rules and items inside are earlier.
use Rattle.std.specs.Prelude.{◌≡◌, ℕ, zero, suc, ◌<◌, Bool, true, false, List, [], ◌∷◌, Some, map, length, slice_get}
use Rattle.std.specs.List.{AllByRecursion as Each}
use Rattle.std.proofs.Common.{refl, sym, ◌∙◌, subst, inl, inr, lt_trans}
use Rattle.std.proofs.lemmas.List.{length-map}
use Rattle.std.proofs.lemmas.Option.{same_Some, slice_get_within}
use Rattle.std.proofs.Math.Logic.{∥∥₁_elim}
use Rattle.cs_document.specs.Document.{Entry}
use Rattle.cs_document.specs.Inside.{InsideBelow}
use Rattle.cs_document.specs.Opened.{Opened, an_object}
use Rattle.cs_package.specs.Expression.{Declaration}
use Rattle.cs_rules.specs.Steps.{AreLower}
use Rattle.cs_table.specs.Judged.{AllVerdicts, IsEarlier}
use Rattle.cs_instance_reasons.specs.Causes.{Cause, IsCause, of_test, of_part, of_alternative, of_none, of_kind, of_member, of_missing, of_extra, of_list_kind, of_front, of_rest, of_few, of_many}
use Rattle.cs_instance.specs.Constraint.{Constraint}
use Rattle.cs_instance_reasons.specs.Led.{leads_to, is_alternative}
use Rattle.cs_instance_reasons.specs.NumberedCauses.{IsRefusedPair}
use Rattle.cs_instance.specs.Numbering.{PartsBelow}
use Rattle.cs_instance.specs.Props.{parts_prop}
use Rattle.cs_instance_reasons.specs.SeenCauses.{IsSeenAs, a_part, an_alternative, a_member, an_element, an_unmet, too_few, too_many, none, a_missing, an_extra, IsCauseAt}
use Rattle.cs_instance_reasons.specs.declared.cause.InstanceCause.{InstanceCause}
use Rattle.cs_instance_reasons.specs.declared.cause.InstanceCause.TheVariants.{NoAlternative}

-- the parts that a rule asks of the same value are earlier rules, and all parts are rules
abbrev pub AreEarlierParts : List (Constraint ℕ ℕ) → Type 0
AreEarlierParts asked = (r : ℕ) (a : Constraint ℕ ℕ) → slice_get asked r ≡ Some a → PartsBelow r (length asked) a

at_place : {X : Type 0} (P : X → Type 0) (xs : List X) (k : ℕ) (x : X) → Each P xs → slice_get xs k ≡ Some x → P x
at_place P [] k x h e = cc
at_place P (y ∷ xs) zero x h e = subst P (same_Some y x e) h.0
at_place P (y ∷ xs) (suc k) x h e = at_place P xs k x h.1 e

module _ (asked : List (Constraint ℕ ℕ)) (xs : List (Opened ℕ)) (f : AllVerdicts) (i r : ℕ) (there : i < length xs) (rule : r < length asked) where
  -- a pair that is refused and earlier
  abbrev Leads : ℕ × ℕ → Type 0
  Leads p = IsRefusedPair asked xs f p.0 p.1 × IsEarlier p.0 p.1 i r

  to_here : (q : ℕ) → q < r → f i q ≡ false → Leads (i, q)
  to_here q l h = (record { item = there; rule = lt_trans l rule; refused = h }, inr (refl, l))

  to_inside : (y q : ℕ) → y < i → q < length asked → f y q ≡ false → Leads (y, q)
  to_inside y q l m h = (record { item = lt_trans l there; rule = m; refused = h }, inl l)

  same_members : (ms ns : List (Entry ℕ)) → an_object ms ≡ an_object ns → ns ≡ ms
  same_members ms ns e = cc

  leads : {a : Constraint ℕ ℕ} {x : Opened ℕ} {k : Cause ℕ ℕ ℕ} {c : InstanceCause} (p : ℕ × ℕ) → PartsBelow r (length asked) a → InsideBelow i x → IsCause (f i) f a x k → IsSeenAs i r x c k → leads_to c ≡ Some p → Leads p
  leads p b w (of_test e) an_unmet l = cc
  leads p b w (of_part {rs = rs} {k = k} {r = q} e h) a_part l = subst Leads (same_Some (i, q) p l) (to_here q (at_place (λ q. q < r) rs k q b e) h)
  leads p b w (of_alternative {rs = rs} {k = k} {r = q} e h) an_alternative l = subst Leads (same_Some (i, q) p l) (to_here q (at_place (λ q. q < r) rs k q b e) h)
  leads p b w of_none none l = cc
  leads p b w (of_kind e) an_unmet l = cc
  leads p b w (of_member {ds = ds} {ms = ms} {j = j} {d = d} {k = k} {y = y} e u h) (a_member {ms = ns} {m = m} same at) l =
      subst Leads (same_Some (y, d.value) p l)
      (to_inside y d.value (at_place (λ (n : Entry ℕ). n.1 < i) ms m (k, y) w (subst (λ t. slice_get t m ≡ Some (k, y)) (same_members ms ns same) at)) (at_place (λ (d : Declaration ℕ). d.value < length asked) ds j d b e) h)
  leads p b w (of_missing e absent under) a_missing l = cc
  leads p b w (of_extra t h) (an_extra same at) l = cc
  leads p b w (of_list_kind e) an_unmet l = cc
  leads p b w (of_front {es = es} {ys = ys} {k = k} {e = e} {y = y} at t h) an_element l =
      subst Leads (same_Some (y, e) p l) (to_inside y e (at_place (λ y. y < i) ys k y w t) (at_place (λ q. q < length asked) es k e b.0 at) h)
  leads p b w (of_rest {ys = ys} {k = k} {e = e} {y = y} behind t h) an_element l = subst Leads (same_Some (y, e) p l) (to_inside y e (at_place (λ y. y < i) ys k y w t) b.1 h)
  leads p b w (of_few m) too_few l = cc
  leads p b w (of_many m) too_many l = cc

pub leads_earlier : (asked : List (Constraint ℕ ℕ)) (xs : List (Opened ℕ)) (f : AllVerdicts) → ∥ AreEarlierParts asked ∥₁ → AreLower xs → (i r j q : ℕ) (c : InstanceCause) → IsCauseAt asked xs f i r c → leads_to c ≡ Some (j, q)
    → IsRefusedPair asked xs f j q × IsEarlier j q i r
leads_earlier asked xs f earlier lower i r j q c is l =
    leads asked xs f i r (slice_get_within xs i is.value is.at_item) (slice_get_within asked r is.asks is.at_rule) (j, q)
    (∥∥₁_elim earlier (parts_prop r (length asked) is.asks) (λ parts. parts r is.asks is.at_rule))
    (lower i is.value is.at_item) is.cause.cause is.cause.seen l

pub within_pairs : {R : Type 0} (made : R → Constraint ℕ ℕ) (rules : List R) (xs : List (Opened ℕ)) (f : AllVerdicts) (i r : ℕ) → IsRefusedPair (map made rules) xs f i r → (i < length xs) × (r < length rules)
within_pairs made rules xs f i r h = (h.item, subst (λ n. r < n) (length-map rules made) h.rule)

-- ---- there are alternatives, or there are none

none_of_none : {here : ℕ → Bool} {inside : ℕ → ℕ → Bool} {i r : ℕ} {a : Constraint ℕ ℕ} {x y : Opened ℕ} {k m : Cause ℕ ℕ ℕ} {c : InstanceCause}
    → IsSeenAs i r x c k → IsCause here inside a x k → is_alternative c ≡ true → IsSeenAs i r y NoAlternative m → IsCause here inside a y m → ⊥
none_of_none an_alternative (of_alternative e h) is none of_none = cc
none_of_none a_part cause is seen other = cc
none_of_none (a_member e at) cause is seen other = cc
none_of_none an_element cause is seen other = cc
none_of_none an_unmet cause is seen other = cc
none_of_none too_few cause is seen other = cc
none_of_none too_many cause is seen other = cc
none_of_none none cause is seen other = cc
none_of_none a_missing cause is seen other = cc
none_of_none (an_extra e at) cause is seen other = cc

pub none_other : (asked : List (Constraint ℕ ℕ)) (xs : List (Opened ℕ)) (f : AllVerdicts) (i r : ℕ) (c : InstanceCause) → IsCauseAt asked xs f i r c → is_alternative c ≡ true → IsCauseAt asked xs f i r NoAlternative → ⊥
none_other asked xs f i r c is chosen none_is =
    let same : none_is.asks ≡ is.asks = same_Some none_is.asks is.asks (sym none_is.at_rule ∙ is.at_rule) in
    none_of_none is.cause.seen is.cause.cause chosen none_is.cause.seen (subst (λ a. IsCause (f i) f a none_is.value none_is.cause.told) same none_is.cause.cause)
