-- What isn't satisfied has a cause.
use Rattle.std.proofs.Common.{◌≡◌, ◌≤◌, ℕ, zero, suc, Bool, true, false, ◌&&◌, ◌||◌, List, [], ◌∷◌, Option, Some, None, drop, refl, sym, ◌∙◌, arith}
use Rattle.std.specs.Prelude.{slice_get, is_some}
use Rattle.std.specs.List.{list_all, list_any}
use Rattle.std.specs.Str.{bytes_eq}
use Rattle.cs_document.specs.Document.{Document, Entry, under}
use Rattle.cs_document.specs.Opened.{Opened, a_list, an_object, opened}
use Rattle.cs_profile.specs.Constraint.{Assertion, nothing, valid_by, has_kind, equals, is_among, at_least, at_most, above, below, has_keys, at_keys, at_other_keys, in_front, behind, at_least_long, at_most_long, valid_by_all, valid_by_any, not_valid_by, Constraint, always, never, conjunction, constraint_of}
use Rattle.cs_profile.specs.Validity.{if_there, front_holds, holds, is_satisfied, IsValidity}
use Rattle.cs_validity_reasons.specs.Causes.{Cause, reference, part, alternative, property, additional, prefix, items, never_valid, no_alternative, missing, by_keyword, most_keyword, least_keyword, IsDenied, of_keyword, of_reference, of_undefined, of_part, of_alternative, of_none, of_missing, of_property, of_additional, of_prefix, of_items, IsCause, of_never, of_claim}
use Rattle.cs_profile.specs.declared.keyword.Keyword.TheVariants as keyword
use Rattle.cs_validity_reasons.specs.Why.{IsWhyNot}
use Rattle.cs_validity_reasons.proofs.Contained.{at_place}

-- ---- lists

-- an element that fails a test
abbrev Fails : {X : Type 0} → (X → Bool) → List X → Type 0
Fails {X} p xs = (k : ℕ) × (x : X) × (slice_get xs k ≡ Some x) × (p x ≡ false)

failing : {X : Type 0} (p : X → Bool) (xs : List X) → list_all p xs ≡ false → Fails p xs
failing p [] e = cc
failing p (x ∷ xs) e = by (p x) refl (λ f. failing p xs f) e
  where
    by : (b : Bool) → p x ≡ b → (list_all p xs ≡ false → Fails p xs) → (b && list_all p xs) ≡ false → Fails p (x ∷ xs)
    by true h rest f = let r = rest f in (suc r.0, r.1, r.2, r.3)
    by false h rest f = (0, x, refl, h)

either_fails : (a b : Bool) → (a || b) ≡ false → (a ≡ false) × (b ≡ false)
either_fails true b e = cc
either_fails false b e = (refl, e)

there_fails : {X : Type 0} (p : X → Bool) (o : Option X) → if_there p o ≡ false → (x : X) × (o ≡ Some x) × (p x ≡ false)
there_fails p (Some x) e = (x, refl, e)
there_fails p None e = cc

none_there : {X : Type 0} (o : Option X) → is_some o ≡ false → o ≡ None
none_there (Some x) e = cc
none_there None e = refl

behind_them : {X : Type 0} (n j : ℕ) (xs : List X) (x : X) → slice_get (drop n xs) j ≡ Some x → (k : ℕ) × (n ≤ k) × (slice_get xs k ≡ Some x)
behind_them zero j xs x e = (j, omega arith, e)
behind_them (suc n) j [] x e = cc
behind_them (suc n) j (y ∷ xs) x e = let r = behind_them n j xs x e in let l = r.1 in (suc r.0, omega (arith, l), r.2)

-- ---- assertions

module _ {A S : Type 0} (here : S → Bool) (inside : A → S → Bool) (d : Document) where
  abbrev FailsInFront : List S → List A → Type 0
  FailsInFront ss ys = (k : ℕ) × (s : S) × (y : A) × (slice_get ss k ≡ Some s) × (slice_get ys k ≡ Some y) × (inside y s ≡ false)

  front_failing : (ss : List S) (ys : List A) → front_holds here inside ss ys ≡ false → FailsInFront ss ys
  front_failing [] ys e = cc
  front_failing (s ∷ ss) [] e = cc
  front_failing (s ∷ ss) (y ∷ ys) e = by (inside y s) refl (λ f. front_failing ss ys f) e
    where
      by : (b : Bool) → inside y s ≡ b → (front_holds here inside ss ys ≡ false → FailsInFront ss ys) → (b && front_holds here inside ss ys) ≡ false → FailsInFront (s ∷ ss) (y ∷ ys)
      by true h rest f = let r = rest f in (suc r.0, r.1, r.2, r.3, r.4, r.5)
      by false h rest f = (0, s, y, refl, refl, h)

  abbrev HasDenial : Opened A → Assertion S S → Type 0
  HasDenial x a = (c : Cause A S S) × IsDenied here inside d x a c

  denial : (a : Assertion S S) (x : Opened A) → holds here inside a d x ≡ false → HasDenial x a
  denial nothing x e = cc
  denial (valid_by (Some s)) x e = (reference s, of_reference e)
  denial (valid_by None) x e = (by_keyword keyword.Ref, of_undefined)
  denial (has_kind k) x e = (by_keyword keyword.Type, of_keyword refl e)
  denial (equals v) x e = (by_keyword keyword.Const, of_keyword refl e)
  denial (is_among vs) x e = (by_keyword keyword.Enum, of_keyword refl e)
  denial (at_least z) x e = (by_keyword keyword.Minimum, of_keyword refl e)
  denial (at_most z) x e = (by_keyword keyword.Maximum, of_keyword refl e)
  denial (above z) x e = (by_keyword keyword.ExclusiveMinimum, of_keyword refl e)
  denial (below z) x e = (by_keyword keyword.ExclusiveMaximum, of_keyword refl e)
  denial (at_most_long k n) x e = (by_keyword (most_keyword k), of_keyword refl e)
  denial (at_least_long k n) x e = (by_keyword (least_keyword k), of_keyword refl e)
  denial (not_valid_by s) x e = (by_keyword keyword.Not, of_keyword refl e)
  denial (has_keys ks) (an_object ms) e =
      let r = failing (λ k. is_some (under k ms)) ks e in (missing r.1, of_missing refl (at_place ks r.1 r.0 r.2) (none_there (under r.1 ms) r.3))
  denial (at_keys ps) (an_object ms) e =
      let r = failing (λ (p : Entry S). if_there (λ y. inside y p.1) (under p.0 ms)) ps e in
      let t = there_fails (λ y. inside y r.1.1) (under r.1.0 ms) r.3 in
      (property r.1.0 t.0 r.1.1, of_property refl (at_place ps r.1 r.0 r.2) t.1 t.2)
  denial (at_other_keys ks s) (an_object ms) e =
      let r = failing (λ (m : Entry A). list_any (bytes_eq m.0) ks || inside m.1 s) ms e in
      let t = either_fails (list_any (bytes_eq r.1.0) ks) (inside r.1.1 s) r.3 in
      (additional r.1.0 r.1.1 s, of_additional refl (at_place ms r.1 r.0 r.2) t.0 t.1)
  denial (in_front ss) (a_list ys) e = let r = front_failing ss ys e in (prefix r.0 r.2 r.1, of_prefix refl r.3 r.4 r.5)
  denial (behind n s) (a_list ys) e =
      let r = failing (λ y. inside y s) (drop n ys) e in
      let t = behind_them n r.0 ys r.1 r.2 in
      (items t.0 r.1 s, of_items refl t.1 t.2 r.3)
  denial (valid_by_all ss) x e = let r = failing here ss e in (part r.0 r.1, of_part r.2 r.3)
  denial (valid_by_any []) x e = (no_alternative, of_none)
  denial (valid_by_any (s ∷ ss)) x e = (alternative 0 s, of_alternative e refl)
  denial a x e = cc

  pub has_cause : (a : Constraint S S) (x : Opened A) → is_satisfied here inside a d x ≡ false → (c : Cause A S S) × IsCause here inside d x a c
  has_cause always x e = cc
  has_cause never x e = (never_valid, of_never)
  has_cause (conjunction claims) x e =
      let r = failing (λ b. holds here inside b d x) claims e in
      let c = denial r.1 x r.3 in
      (c.0, of_claim (at_place claims r.1 r.0 r.2) c.1)

-- what isn't valid has a cause
pub has_why : (R : Document) (V : Document → Document → Bool) → IsValidity R V → (s x : Document) → V s x ≡ false → (c : Cause Document Document Document) × IsWhyNot R V s x c
has_why R V h s x e = has_cause (λ p. V p x) (λ y p. V p y) x (constraint_of R s) (opened x) (sym (h s x) ∙ e)
