-- A cause over numbers leads to an earlier pair of a rule that there is, which is refused too.
use Rattle.std.proofs.Common.{◌≡◌, ◌<◌, inl, inr, ℕ, zero, suc, Bool, true, false, ◌||◌, List, [], ◌∷◌, Option, Some, None, if◌then◌else◌, Contains, map, length, get_or, slice_index, refl, sym, ap, ◌∙◌, subst, arith}
use Rattle.std.specs.Prelude.{slice_get}
use Rattle.std.specs.List.{list_any, AllByRecursion as Each}
use Rattle.std.specs.Str.{bytes_eq}
use Rattle.std.proofs.Math.Nat.{lt_trans}
use Rattle.std.proofs.lemmas.Option.{none-some, same_Some}
use Rattle.cs_document.specs.Document.{Document, Entry, under}
use Rattle.cs_document.specs.Opened.{Opened, a_list, an_object}
use Rattle.cs_document.specs.Inside.{InsideBelow, map_entry}
use Rattle.cs_table.specs.Judged.{AllVerdicts, IsEarlier}
use Rattle.cs_profile.specs.Constraint.{Assertion, Constraint, always, never, conjunction, valid_by, at_keys, at_other_keys, in_front, behind, valid_by_all, valid_by_any, not_valid_by}
use Rattle.cs_validate.specs.Numbering.{map_assertion, map_constraint, ClaimBelow, PartsBelow}
use Rattle.cs_validity_reasons.specs.Causes.{Cause, IsDenied, of_keyword, of_reference, of_undefined, of_part, of_alternative, of_none, of_missing, of_property, of_additional, of_prefix, of_items, IsCause, of_never, of_claim}
use Rattle.cs_validity_reasons.specs.NumberedCauses.{led_from}

-- ---- what holds of each element

got_at : {X : Type 0} (P : X → Type 0) (xs : List X) (k : ℕ) (x : X) → Each P xs → slice_get xs k ≡ Some x → P x
got_at P [] k x h e = cc
got_at P (z ∷ zs) zero x h e = subst P (same_Some z x e) h.0
got_at P (z ∷ zs) (suc k) x h e = got_at P zs k x h.1 e

got_index : {X : Type 0} (P : X → Type 0) (xs : List X) (x d : X) (k : ℕ) → Each P xs → k < length xs → get_or xs k d ≡ x → P x
got_index P [] x d k h l e = absurd (omega (arith, l))
got_index P (y ∷ ys) x d zero h l e = subst P e h.0
got_index P (y ∷ ys) x d (suc k) h l e = got_index P ys x d k h.1 (omega (arith, l)) e

got_in : {X : Type 0} (P : X → Type 0) (xs : List X) (x : X) → Each P xs → Contains xs x → P x
got_in P xs x h c = got_index P xs x x c.0 h c.1 c.2

got_under : {X : Type 0} (P : X → Type 0) (k : List ℕ) (ms : List (Entry X)) (x : X) → Each (λ (m : Entry X). P m.1) ms → under k ms ≡ Some x → P x
got_under P k [] x h e = cc
got_under P k (m ∷ ms) x h e =
    (elim (bytes_eq k m.0) as (λ t. (if t then Some m.1 else under k ms) ≡ Some x → P x) [
      | true ↦ λ f. subst P (same_Some m.1 x f) h.0
      | false ↦ λ f. got_under P k ms x h.1 f
    ]) e

or_fails : (a b : Bool) → (a || b) ≡ false → (a ≡ false) × (b ≡ false)
or_fails true b e = cc
or_fails false b e = (refl, e)

any_fails : {X : Type 0} (p : X → Bool) (xs : List X) (k : ℕ) (x : X) → list_any p xs ≡ false → slice_get xs k ≡ Some x → p x ≡ false
any_fails p [] k x h e = cc
any_fails p (z ∷ zs) zero x h e = ap p (sym (same_Some z x e)) ∙ (or_fails (p z) (list_any p zs) h).0
any_fails p (z ∷ zs) (suc k) x h e = any_fails p zs k x (or_fails (p z) (list_any p zs) h).1 e

-- ---- earlier

module _ (f : AllVerdicts) (d : Document) (x : Opened ℕ) (i r m : ℕ) (few : r < m) (w : InsideBelow i x) where
  -- earlier than the item i and the rule r, of a rule below m, and refused
  abbrev pub IsLower : ℕ × ℕ → Type 0
  IsLower p = IsEarlier p.0 p.1 i r × (p.1 < m) × (f p.0 p.1 ≡ false)

  moved : (p q : ℕ × ℕ) → ◌≡◌ {A = Option (ℕ × ℕ)} (Some p) (Some q) → IsLower p → IsLower q
  moved p q e h = subst IsLower (same_Some p q e) h

  same_item : (s : ℕ) (q : ℕ × ℕ) → s < r → f i s ≡ false → ◌≡◌ {A = Option (ℕ × ℕ)} (Some (i, s)) (Some q) → IsLower q
  same_item s q l n e = moved (i, s) q e (inr (refl, l), lt_trans l few, n)

  inner_item : (y s : ℕ) (q : ℕ × ℕ) → y < i → s < m → f y s ≡ false → ◌≡◌ {A = Option (ℕ × ℕ)} (Some (y, s)) (Some q) → IsLower q
  inner_item y s q l k n e = moved (y, s) q e (inl l, k, n)

  in_object : (ms : List (Entry ℕ)) → x ≡ an_object ms → Each (λ (e : Entry ℕ). e.1 < i) ms
  in_object ms o = subst (InsideBelow i) o w

  in_list : (ys : List ℕ) → x ≡ a_list ys → Each (λ y. y < i) ys
  in_list ys o = subst (InsideBelow i) o w

  denied_lower : {a : Assertion ℕ ℕ} {c : Cause ℕ ℕ ℕ} → ClaimBelow r m a → IsDenied (f i) f d x a c → (q : ℕ × ℕ) → led_from i c ≡ Some q → IsLower q
  denied_lower b (of_keyword e n) q l = absurd (none-some _ l)
  denied_lower b (of_reference {s} n) q l = same_item s q b.0 n l
  denied_lower b of_undefined q l = absurd (none-some _ l)
  denied_lower b (of_part {ss} {k} {s} e n) q l = same_item s q (got_at (λ t. t < r) ss k s b e) n l
  denied_lower b (of_alternative {ss} {k} {s} n e) q l = same_item s q (got_at (λ t. t < r) ss k s b e) (any_fails (f i) ss k s n e) l
  denied_lower b of_none q l = absurd (none-some _ l)
  denied_lower b (of_missing o c e) q l = absurd (none-some _ l)
  denied_lower b (of_property {ps} {k} {s} {y} {ms} o c e n) q l =
      inner_item y s q (got_under (λ z. z < i) k ms y (in_object ms o) e) (got_in (λ (p : Entry ℕ). p.1 < m) ps (k, s) b c) n l
  denied_lower b (of_additional {ks} {k} {s} {y} {ms} o c e n) q l = inner_item y s q (got_in (λ (p : Entry ℕ). p.1 < i) ms (k, y) (in_object ms o) c) b n l
  denied_lower b (of_prefix {ss} {k} {s} {y} {ys} o e g n) q l = inner_item y s q (got_at (λ z. z < i) ys k y (in_list ys o) g) (got_at (λ t. t < m) ss k s b e) n l
  denied_lower b (of_items {n} {k} {s} {y} {ys} o u g fails) q l = inner_item y s q (got_at (λ z. z < i) ys k y (in_list ys o) g) b fails l

  pub cause_lower : {a : Constraint ℕ ℕ} {c : Cause ℕ ℕ ℕ} → PartsBelow r m a → IsCause (f i) f d x a c → (q : ℕ × ℕ) → led_from i c ≡ Some q → IsLower q
  cause_lower b of_never q l = absurd (none-some _ l)
  cause_lower b (of_claim {claims} {a} u n) q l = denied_lower (got_in (ClaimBelow r m) claims a b u) n q l

-- ---- the rules at places

module _ (r n : ℕ) (inner : List ℕ) (h : Each (λ q. q < n) inner) where
  rule_below : (p : ℕ) → p < length inner → slice_index inner p < n
  rule_below p l = got_index (λ q. q < n) inner (slice_index inner p) 0 p h l refl

  same_each : (ss : List ℕ) → Each (λ s. s < r) ss → Each (λ s. s < r) (map (λ k. k) ss)
  same_each [] k = tt
  same_each (s ∷ ss) k = (k.0, same_each ss k.1)

  rules_below : (ps : List ℕ) → Each (λ p. p < length inner) ps → Each (λ q. q < n) (map (slice_index inner) ps)
  rules_below [] k = tt
  rules_below (p ∷ ps) k = (rule_below p k.0, rules_below ps k.1)

  entries_below : (ps : List (Entry ℕ)) → Each (λ (e : Entry ℕ). e.1 < length inner) ps → Each (λ (e : Entry ℕ). e.1 < n) (map (map_entry (slice_index inner)) ps)
  entries_below [] k = tt
  entries_below (p ∷ ps) k = (rule_below p.1 k.0, entries_below ps k.1)

  claim_lower : (a : Assertion ℕ ℕ) → ClaimBelow r (length inner) a → ClaimBelow r n (map_assertion (λ k. k) (slice_index inner) a)
  claim_lower (valid_by None) k = tt
  claim_lower (valid_by (Some s)) k = k
  claim_lower (at_keys ps) k = entries_below ps k
  claim_lower (at_other_keys ks p) k = rule_below p k
  claim_lower (in_front ps) k = rules_below ps k
  claim_lower (behind j p) k = rule_below p k
  claim_lower (valid_by_all ss) k = same_each ss k
  claim_lower (valid_by_any ss) k = same_each ss k
  claim_lower (not_valid_by s) k = k
  claim_lower _ k = tt

  claims_lower : (claims : List (Assertion ℕ ℕ)) → Each (ClaimBelow r (length inner)) claims → Each (ClaimBelow r n) (map (map_assertion (λ k. k) (slice_index inner)) claims)
  claims_lower [] k = tt
  claims_lower (a ∷ claims) k = (claim_lower a k.0, claims_lower claims k.1)

  pub parts_lower : (a : Constraint ℕ ℕ) → PartsBelow r (length inner) a → PartsBelow r n (map_constraint (λ k. k) (slice_index inner) a)
  parts_lower always k = tt
  parts_lower never k = tt
  parts_lower (conjunction claims) k = claims_lower claims k
