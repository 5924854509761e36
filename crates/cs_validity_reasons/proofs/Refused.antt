-- What follows from a cause: the constraint isn't satisfied, what the cause leads to isn't valid, and a cause that leads nowhere is
-- enough by itself.
use Rattle.std.proofs.Common.{◌≡◌, ◌≤◌, ℕ, zero, suc, Bool, true, false, ◌&&◌, ◌||◌, List, [], ◌∷◌, Option, Some, None, drop, refl, sym, ap, ◌∙◌, arith}
use Rattle.std.specs.Prelude.{slice_get, is_some}
use Rattle.std.specs.List.{list_all, list_any}
use Rattle.std.specs.Str.{bytes_eq}
use Rattle.std.proofs.lemmas.Option.{none-some, same_Some}
use Rattle.cs_document.specs.Document.{Document, Entry, under}
use Rattle.cs_document.specs.Opened.{Opened, opened}
use Rattle.cs_profile.specs.Constraint.{Assertion, has_kind, equals, is_among, at_least, at_most, above, below, at_least_long, at_most_long, not_valid_by, Constraint, constraint_of}
use Rattle.cs_profile.specs.Validity.{if_there, if_object, if_array, front_holds, holds, is_satisfied, IsValidity}
use Rattle.cs_profile.specs.declared.keyword.Keyword.{Keyword}
use Rattle.cs_profile.specs.declared.keyword.Keyword.TheVariants as keyword
use Rattle.cs_validity_reasons.specs.Causes.{Cause, by_keyword, keyword_of, IsDenied, of_keyword, of_reference, of_undefined, of_part, of_alternative, of_none, of_missing, of_property, of_additional, of_prefix, of_items, IsCause, of_never, of_claim}
use Rattle.cs_validity_reasons.specs.Why.{Way, led, IsWhyNot, IsRefused, whole, next}
use Rattle.cs_validity_reasons.proofs.Contained.{place_of}

-- ---- lists

and_fails : (a b : Bool) → b ≡ false → (a && b) ≡ false
and_fails true b e = e
and_fails false b e = refl

all_fail : {X : Type 0} (p : X → Bool) (xs : List X) (k : ℕ) (x : X) → slice_get xs k ≡ Some x → p x ≡ false → list_all p xs ≡ false
all_fail p [] k x e h = cc
all_fail p (z ∷ zs) zero x e h = ap (λ b. b && list_all p zs) (ap p (same_Some z x e) ∙ h)
all_fail p (z ∷ zs) (suc k) x e h = and_fails (p z) (list_all p zs) (all_fail p zs k x e h)

or_fails : (a b : Bool) → (a || b) ≡ false → (a ≡ false) × (b ≡ false)
or_fails true b e = cc
or_fails false b e = (refl, e)

pub any_fails : {X : Type 0} (p : X → Bool) (xs : List X) (k : ℕ) (x : X) → list_any p xs ≡ false → slice_get xs k ≡ Some x → p x ≡ false
any_fails p [] k x h e = cc
any_fails p (z ∷ zs) zero x h e = ap p (sym (same_Some z x e)) ∙ (or_fails (p z) (list_any p zs) h).0
any_fails p (z ∷ zs) (suc k) x h e = any_fails p zs k x (or_fails (p z) (list_any p zs) h).1 e

dropped : {X : Type 0} (n k : ℕ) (xs : List X) (x : X) → n ≤ k → slice_get xs k ≡ Some x → (j : ℕ) × (slice_get (drop n xs) j ≡ Some x)
dropped zero k xs x l e = (k, e)
dropped (suc n) k [] x l e = cc
dropped (suc n) zero (z ∷ zs) x l e = absurd (omega (arith, l))
dropped (suc n) (suc k) (z ∷ zs) x l e = dropped n k zs x (omega (arith, l)) e

-- ---- what a cause is of isn't satisfied

module _ {A S : Type 0} (here : S → Bool) (inside : A → S → Bool) (d : Document) (x : Opened A) where
  front_fails : (ss : List S) (ys : List A) (k : ℕ) (s : S) (y : A) → slice_get ss k ≡ Some s → slice_get ys k ≡ Some y → inside y s ≡ false → front_holds here inside ss ys ≡ false
  front_fails [] ys k s y e l h = cc
  front_fails (t ∷ ss) [] k s y e l h = cc
  front_fails (t ∷ ss) (z ∷ ys) zero s y e l h =
      let a : t ≡ s = same_Some t s e in
      let b : z ≡ y = same_Some z y l in
      rw (a, b, h)
  front_fails (t ∷ ss) (z ∷ ys) (suc k) s y e l h = and_fails (inside z t) (front_holds here inside ss ys) (front_fails ss ys k s y e l h)

  pub denied_fails : {a : Assertion S S} {c : Cause A S S} → IsDenied here inside d x a c → holds here inside a d x ≡ false
  denied_fails (of_keyword e h) = h
  denied_fails (of_reference h) = h
  denied_fails of_undefined = refl
  denied_fails (of_part {ss} {k} {s} e h) = all_fail here ss k s e h
  denied_fails (of_alternative h e) = h
  denied_fails of_none = refl
  denied_fails (of_missing {ks} {k} {ms} o m e) =
      let p = place_of ks k m in ap (if_object (λ es. list_all (λ l. is_some (under l es)) ks)) o ∙ all_fail (λ l. is_some (under l ms)) ks p.0 k p.1 (ap is_some e)
  denied_fails (of_property {ps} {k} {s} {y} {ms} o m e h) =
      let p = place_of ps (k, s) m in
      ap (if_object (λ es. list_all (λ (q : Entry S). if_there (λ z. inside z q.1) (under q.0 es)) ps)) o
      ∙ all_fail (λ (q : Entry S). if_there (λ z. inside z q.1) (under q.0 ms)) ps p.0 (k, s) p.1 (ap (if_there (λ z. inside z s)) e ∙ h)
  denied_fails (of_additional {ks} {k} {s} {y} {ms} o m e h) =
      let p = place_of ms (k, y) m in
      ap (if_object (λ es. list_all (λ (q : Entry A). list_any (bytes_eq q.0) ks || inside q.1 s) es)) o
      ∙ all_fail (λ (q : Entry A). list_any (bytes_eq q.0) ks || inside q.1 s) ms p.0 (k, y) p.1 (ap (λ b. b || inside y s) e ∙ h)
  denied_fails (of_prefix {ss} {k} {s} {y} {ys} o e l h) = ap (if_array (front_holds here inside ss)) o ∙ front_fails ss ys k s y e l h
  denied_fails (of_items {n} {k} {s} {y} {ys} o m l h) =
      let p = dropped n k ys y m l in ap (if_array (λ zs. list_all (λ z. inside z s) (drop n zs))) o ∙ all_fail (λ z. inside z s) (drop n ys) p.0 y p.1 h

  pub cause_fails : {a : Constraint S S} {c : Cause A S S} → IsCause here inside d x a c → is_satisfied here inside a d x ≡ false
  cause_fails of_never = refl
  cause_fails (of_claim {claims} {a} m h) = let p = place_of claims a m in all_fail (λ b. holds here inside b d x) claims p.0 a p.1 (denied_fails h)

-- ---- by itself

module _ {A S : Type 0} (here : S → Bool) (inside : A → S → Bool) (d : Document) (x : Opened A) (z : A) (here' : S → Bool) (inside' : A → S → Bool) where
  word_same : (a : Assertion S S) (w : Keyword) → keyword_of a ≡ Some w → (w ≡ keyword.Not → ⊥) → holds here inside a d x ≡ false → holds here' inside' a d x ≡ false
  word_same (has_kind k) w e n h = h
  word_same (equals v) w e n h = h
  word_same (is_among vs) w e n h = h
  word_same (at_least l) w e n h = h
  word_same (at_most l) w e n h = h
  word_same (above l) w e n h = h
  word_same (below l) w e n h = h
  word_same (at_most_long k l) w e n h = h
  word_same (at_least_long k l) w e n h = h
  word_same (not_valid_by s) w e n h = absurd (n (sym (same_Some keyword.Not w e)))
  word_same _ w e n h = absurd (none-some w e)

  -- whatever is said of other schemas
  leaf_denied : {a : Assertion S S} {c : Cause A S S} → IsDenied here inside d x a c → led z c ≡ None → (c ≡ by_keyword keyword.Not → ⊥) → holds here' inside' a d x ≡ false
  leaf_denied (of_keyword {a} {w} e h) l n = word_same a w e (λ q. n (ap by_keyword q)) h
  leaf_denied (of_reference h) l n = cc
  leaf_denied of_undefined l n = refl
  leaf_denied (of_part e h) l n = cc
  leaf_denied (of_alternative h e) l n = cc
  leaf_denied of_none l n = refl
  leaf_denied (of_missing o m e) l n = denied_fails here' inside' d x (of_missing o m e)
  leaf_denied (of_property o m e h) l n = cc
  leaf_denied (of_additional o m e h) l n = cc
  leaf_denied (of_prefix o e k h) l n = cc
  leaf_denied (of_items o m k h) l n = cc

  pub leaf_fails : {a : Constraint S S} {c : Cause A S S} → IsCause here inside d x a c → led z c ≡ None → (c ≡ by_keyword keyword.Not → ⊥) → is_satisfied here' inside' a d x ≡ false
  leaf_fails of_never l n = refl
  leaf_fails (of_claim {claims} {a} m h) l n = let p = place_of claims a m in all_fail (λ b. holds here' inside' b d x) claims p.0 a p.1 (leaf_denied h l n)

-- ---- what it leads to isn't valid

module _ {A S : Type 0} (valid : S → A → Bool) (z : A) (d : Document) (x : Opened A) where
  lost : (y v : A) (s t : S) → ◌≡◌ {A = Option (A × S)} (Some (y, s)) (Some (v, t)) → valid s y ≡ false → valid t v ≡ false
  lost y v s t e h = let p = same_Some (y, s) (v, t) e in ap (λ (q : A × S). valid q.1 q.0) (sym p) ∙ h

  led_denied : {a : Assertion S S} {c : Cause A S S} → IsDenied (λ p. valid p z) (λ y p. valid p y) d x a c → (y : A) (p : S) → led z c ≡ Some (y, p) → valid p y ≡ false
  led_denied (of_keyword e h) y p l = absurd (none-some _ l)
  led_denied (of_reference h) y p l = lost _ y _ p l h
  led_denied of_undefined y p l = absurd (none-some _ l)
  led_denied (of_part e h) y p l = lost _ y _ p l h
  led_denied (of_alternative {ss} {k} {s} h e) y p l = lost _ y _ p l (any_fails (λ q. valid q z) ss k s h e)
  led_denied of_none y p l = absurd (none-some _ l)
  led_denied (of_missing o m e) y p l = absurd (none-some _ l)
  led_denied (of_property o m e h) y p l = lost _ y _ p l h
  led_denied (of_additional o m e h) y p l = lost _ y _ p l h
  led_denied (of_prefix o e k h) y p l = lost _ y _ p l h
  led_denied (of_items o m k h) y p l = lost _ y _ p l h

  pub led_fails : {a : Constraint S S} {c : Cause A S S} → IsCause (λ p. valid p z) (λ y p. valid p y) d x a c → (y : A) (p : S) → led z c ≡ Some (y, p) → valid p y ≡ false
  led_fails of_never y p l = absurd (none-some _ l)
  led_fails (of_claim m h) y p l = led_denied h y p l

-- ---- by the meaning

module _ (R : Document) (V : Document → Document → Bool) (h : IsValidity R V) where
  -- a schema that a cause is of doesn't validate
  pub not_valid : (s x : Document) (c : Cause Document Document Document) → IsWhyNot R V s x c → V s x ≡ false
  not_valid s x c why = h s x ∙ cause_fails (λ p. V p x) (λ y p. V p y) x (opened x) why

  -- a cause that leads nowhere is enough: the schema doesn't validate, whatever other schemas are said to validate
  pub by_itself : (s x : Document) (c : Cause Document Document Document) → IsWhyNot R V s x c → led x c ≡ None → (c ≡ by_keyword keyword.Not → ⊥)
      → (W : Document → Document → Bool) → is_satisfied (λ p. W p x) (λ y p. W p y) (constraint_of R s) x (opened x) ≡ false
  by_itself s x c why leaf other W = leaf_fails (λ p. V p x) (λ y p. V p y) x (opened x) x (λ p. W p x) (λ y p. W p y) why leaf other

  -- nothing on a chain is valid by its schema
  pub refused : (s0 x0 : Document) {ways : List Way} {s x : Document} → IsRefused R V s0 x0 ways s x → V s x ≡ false
  refused s0 x0 (whole e) = e
  refused s0 x0 (next {s = s} {x = x} {p = p} {y = y} r why l) = led_fails (λ q z. V q z) x x (opened x) why y p l

  -- nor is the whole
  pub refused_first : (s0 x0 : Document) {ways : List Way} {s x : Document} → IsRefused R V s0 x0 ways s x → V s0 x0 ≡ false
  refused_first s0 x0 (whole e) = e
  refused_first s0 x0 (next r why l) = refused_first s0 x0 r
