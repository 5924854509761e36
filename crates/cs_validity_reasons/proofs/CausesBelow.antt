-- A cause over numbers leads to an earlier pair, of a rule that there is.
use Rattle.std.proofs.Common.{◌≡◌, ◌<◌, inl, inr, ℕ, Bool, List, Option, Some, refl, subst}
use Rattle.std.specs.List.{AllByRecursion as Each}
use Rattle.std.proofs.Math.Nat.{lt_trans}
use Rattle.std.proofs.lemmas.Option.{none-some, same_Some}
use Rattle.cs_document.specs.Document.{Document, Entry}
use Rattle.cs_document.specs.Opened.{Opened, a_list, an_object}
use Rattle.cs_document.specs.Inside.{InsideBelow}
use Rattle.cs_table.specs.Judged.{IsEarlier}
use Rattle.cs_profile.specs.Constraint.{Assertion, Constraint}
use Rattle.cs_validate.specs.Numbering.{ClaimBelow, PartsBelow}
use Rattle.cs_validity_reasons.specs.Causes.{Cause, IsDenied, of_keyword, of_reference, of_undefined, of_part, of_alternative, of_none, of_missing, of_property, of_additional, of_prefix, of_items, IsCause, of_never, of_claim}
use Rattle.cs_validity_reasons.specs.Why.{led}
use Rattle.cs_validity_reasons.proofs.CausesAgree.{each_got, each_contains, each_found}

module _ (here : ℕ → Bool) (inside : ℕ → ℕ → Bool) (d : Document) (x : Opened ℕ) (i r m : ℕ) (few : r < m) (w : InsideBelow i x) where
  -- earlier than the item i and the rule r, and of a rule below m
  abbrev pub IsBelow : ℕ × ℕ → Type 0
  IsBelow p = IsEarlier p.0 p.1 i r × (p.1 < m)

  moved : (p q : ℕ × ℕ) → ◌≡◌ {A = Option (ℕ × ℕ)} (Some p) (Some q) → IsBelow p → IsBelow q
  moved p q e h = subst IsBelow (same_Some p q e) h

  same_item : (s : ℕ) (q : ℕ × ℕ) → s < r → ◌≡◌ {A = Option (ℕ × ℕ)} (Some (i, s)) (Some q) → IsBelow q
  same_item s q l e = moved (i, s) q e (inr (refl, l), lt_trans l few)

  inner_item : (y s : ℕ) (q : ℕ × ℕ) → y < i → s < m → ◌≡◌ {A = Option (ℕ × ℕ)} (Some (y, s)) (Some q) → IsBelow q
  inner_item y s q l k e = moved (y, s) q e (inl l, k)

  in_object : (ms : List (Entry ℕ)) → x ≡ an_object ms → Each (λ (e : Entry ℕ). e.1 < i) ms
  in_object ms o = subst (InsideBelow i) o w

  in_list : (ys : List ℕ) → x ≡ a_list ys → Each (λ y. y < i) ys
  in_list ys o = subst (InsideBelow i) o w

  denied_below : {a : Assertion ℕ ℕ} {c : Cause ℕ ℕ ℕ} → ClaimBelow r m a → IsDenied here inside d x a c → (q : ℕ × ℕ) → led i c ≡ Some q → IsBelow q
  denied_below b (of_keyword e f) q l = absurd (none-some _ l)
  denied_below b (of_reference {s} e) q l = same_item s q b.0 l
  denied_below b of_undefined q l = absurd (none-some _ l)
  denied_below b (of_part {ss} {k} {s} e f) q l = same_item s q (each_got (λ t. t < r) ss k s b e) l
  denied_below b (of_alternative {ss} {k} {s} f e) q l = same_item s q (each_got (λ t. t < r) ss k s b e) l
  denied_below b of_none q l = absurd (none-some _ l)
  denied_below b (of_missing o c e) q l = absurd (none-some _ l)
  denied_below b (of_property {ps} {k} {s} {y} {ms} o c e f) q l =
      inner_item y s q (each_found (λ z. z < i) k ms y (in_object ms o) e) (each_contains (λ (p : Entry ℕ). p.1 < m) ps (k, s) b c) l
  denied_below b (of_additional {ks} {k} {s} {y} {ms} o c e f) q l = inner_item y s q (each_contains (λ (p : Entry ℕ). p.1 < i) ms (k, y) (in_object ms o) c) b l
  denied_below b (of_prefix {ss} {k} {s} {y} {ys} o e g f) q l = inner_item y s q (each_got (λ z. z < i) ys k y (in_list ys o) g) (each_got (λ t. t < m) ss k s b e) l
  denied_below b (of_items {n} {k} {s} {y} {ys} o u g f) q l = inner_item y s q (each_got (λ z. z < i) ys k y (in_list ys o) g) b l

  pub cause_below : {a : Constraint ℕ ℕ} {c : Cause ℕ ℕ ℕ} → PartsBelow r m a → IsCause here inside d x a c → (q : ℕ × ℕ) → led i c ≡ Some q → IsBelow q
  cause_below b of_never q l = absurd (none-some _ l)
  cause_below b (of_claim {claims} {a} u f) q l = denied_below (each_contains (ClaimBelow r m) claims a b u) f q l
