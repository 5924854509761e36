-- Causes are the same by verdicts that agree on the parts: as `numbers_same` has it for what is satisfied.
use Rattle.std.proofs.Common.{◌≡◌, ◌<◌, ℕ, zero, suc, Bool, true, false, List, [], ◌∷◌, Some, if◌then◌else◌, Contains, sym, ◌∙◌, subst}
use Rattle.std.specs.Prelude.{slice_get}
use Rattle.std.specs.List.{AllByRecursion as Each}
use Rattle.std.specs.Str.{bytes_eq}
use Rattle.std.proofs.Math.Bool.{and-true}
use Rattle.std.proofs.lemmas.Option.{same_Some}
use Rattle.cs_document.specs.Document.{Document, Entry, under}
use Rattle.cs_document.specs.Opened.{Opened, a_list, an_object}
use Rattle.cs_document.specs.Inside.{InsideBelow}
use Rattle.cs_document.proofs.Each.{each_map, any_same}
use Rattle.cs_profile.specs.Constraint.{Assertion, Constraint, conjunction}
use Rattle.cs_profile.specs.Validity.{holds}
use Rattle.cs_validate.specs.Numbering.{ClaimBelow, PartsBelow}
use Rattle.cs_validate.specs.Looks.{numbers_same}
use Rattle.cs_validity_reasons.specs.Causes.{Cause, IsDenied, of_keyword, of_reference, of_undefined, of_part, of_alternative, of_none, of_missing, of_property, of_additional, of_prefix, of_items, IsCause, of_never, of_claim}
use Rattle.cs_validity_reasons.proofs.Contained.{place_of}

-- ---- one of several

pub each_got : {X : Type 0} (P : X → Type 0) (xs : List X) (k : ℕ) (x : X) → Each P xs → slice_get xs k ≡ Some x → P x
each_got P [] k x h e = cc
each_got P (z ∷ zs) zero x h e = subst P (same_Some z x e) h.0
each_got P (z ∷ zs) (suc k) x h e = each_got P zs k x h.1 e

pub each_contains : {X : Type 0} (P : X → Type 0) (xs : List X) (x : X) → Each P xs → Contains xs x → P x
each_contains P xs x h c = let p = place_of xs x c in each_got P xs p.0 x h p.1

pub each_found : {X : Type 0} (P : X → Type 0) (k : List ℕ) (ms : List (Entry X)) (x : X) → Each (λ (m : Entry X). P m.1) ms → under k ms ≡ Some x → P x
each_found P k [] x h e = cc
each_found P k (m ∷ ms) x h e =
    (elim (bytes_eq k m.0) as (λ t. (if t then Some m.1 else under k ms) ≡ Some x → P x) [
      | true ↦ λ f. subst P (same_Some m.1 x f) h.0
      | false ↦ λ f. each_found P k ms x h.1 f
    ]) e

-- ---- two ways to answer that agree below i, r and m

module _ (i r m : ℕ) (here here' : ℕ → Bool) (inside inside' : ℕ → ℕ → Bool) (h : (d : ℕ) → d < r → here d ≡ here' d) (k : (y p : ℕ) → y < i → p < m → inside y p ≡ inside' y p) (d : Document) (x : Opened ℕ) (w : InsideBelow i x) where
  holds_same : (a : Assertion ℕ ℕ) → ClaimBelow r m a → holds here inside a d x ≡ holds here' inside' a d x
  holds_same a b =
      sym (and-true (holds here inside a d x)) ∙ numbers_same i r m here here' inside inside' h k (conjunction (a ∷ [])) d x (b, tt) w ∙ and-true (holds here' inside' a d x)

  -- a value inside
  in_object : (ms : List (Entry ℕ)) → x ≡ an_object ms → Each (λ (e : Entry ℕ). e.1 < i) ms
  in_object ms o = subst (InsideBelow i) o w

  in_list : (ys : List ℕ) → x ≡ a_list ys → Each (λ y. y < i) ys
  in_list ys o = subst (InsideBelow i) o w

  pub denied_same : {a : Assertion ℕ ℕ} {c : Cause ℕ ℕ ℕ} → ClaimBelow r m a → IsDenied here inside d x a c → IsDenied here' inside' d x a c
  denied_same b (of_keyword {a} e f) = of_keyword e (sym (holds_same a b) ∙ f)
  denied_same b (of_reference {s} e) = of_reference (sym (h s b.0) ∙ e)
  denied_same b of_undefined = of_undefined
  denied_same b (of_part {ss} {k = j} {s} e f) = of_part e (sym (h s (each_got (λ q. q < r) ss j s b e)) ∙ f)
  denied_same b (of_alternative {ss} f e) = of_alternative (sym (any_same here here' ss (each_map (λ q. q < r) (λ q. here q ≡ here' q) h ss b)) ∙ f) e
  denied_same b of_none = of_none
  denied_same b (of_missing o c e) = of_missing o c e
  denied_same b (of_property {ps} {k = l} {s} {y} {ms} o c e f) =
      of_property o c e (sym (k y s (each_found (λ z. z < i) l ms y (in_object ms o) e) (each_contains (λ (p : Entry ℕ). p.1 < m) ps (l, s) b c)) ∙ f)
  denied_same b (of_additional {ks} {k = l} {s} {y} {ms} o c e f) = of_additional o c e (sym (k y s (each_contains (λ (p : Entry ℕ). p.1 < i) ms (l, y) (in_object ms o) c) b) ∙ f)
  denied_same b (of_prefix {ss} {k = j} {s} {y} {ys} o e l f) = of_prefix o e l (sym (k y s (each_got (λ z. z < i) ys j y (in_list ys o) l) (each_got (λ q. q < m) ss j s b e)) ∙ f)
  denied_same b (of_items {n} {k = j} {s} {y} {ys} o u l f) = of_items o u l (sym (k y s (each_got (λ z. z < i) ys j y (in_list ys o) l) b) ∙ f)

  pub cause_same : {a : Constraint ℕ ℕ} {c : Cause ℕ ℕ ℕ} → PartsBelow r m a → IsCause here inside d x a c → IsCause here' inside' d x a c
  cause_same b of_never = of_never
  cause_same b (of_claim {claims} {a} u f) = of_claim u (denied_same (each_contains (ClaimBelow r m) claims a b u) f)
