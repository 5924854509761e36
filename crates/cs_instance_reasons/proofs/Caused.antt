-- What is not satisfied has a cause.
use Rattle.std.proofs.Common.{◌≡◌, ◌⊎◌, ℕ, suc, Bool, true, false, ◌||◌, List, [], ◌∷◌, Option, Some, None, if◌then◌else◌, refl, sym, ◌∙◌, arith, inl, inr, slice_get}
use Rattle.std.specs.List.{list_all, list_any}
use Rattle.std.proofs.lemmas.Bool.{and_cases, or_parts}
use Rattle.cs_document.specs.Document.{Document, Entry, under}
use Rattle.cs_document.specs.Opened.{Opened, a_null, a_boolean, an_integer, a_text, a_list, an_object, opened}
use Rattle.cs_package.specs.Environment.{Environment}
use Rattle.cs_package.specs.Expression.{Declaration, is_every}
use Rattle.cs_instance_reasons.specs.Causes.{Cause, part, alternative, member, element, unmet, few, many, no_alternative, missing, extra, IsCause, of_test, of_part, of_alternative, of_none, of_kind, of_member, of_missing, of_extra, of_list_kind, of_front, of_rest, of_few, of_many}
use Rattle.cs_instance.specs.Constraint.{Rest, nothing, anything, each, Constraint, simple, all_of, any_of, object_of, list_of, is_satisfied, allows, value_holds, declaration_holds, fields_hold, elements_hold}
use Rattle.cs_instance.specs.Instance.{Rule, node, constraint_of, IsInstance}
use Rattle.cs_instance_reasons.specs.Why.{asked_by, IsCauseOf}
use Rattle.cs_instance_reasons.proofs.Carried.{there}
use Rattle.cs_instance.proofs.Satisfied.{named}

-- one of them fails
some_fails : {X : Type 0} (p : X → Bool) (xs : List X) → list_all p xs ≡ false → (k : ℕ) × (x : X) × (slice_get xs k ≡ Some x) × (p x ≡ false)
some_fails p [] e = cc
some_fails {X} p (x ∷ xs) e = by (and_cases (p x) (list_all p xs) e) (some_fails p xs)
  where
    by : (p x ≡ false) ⊎ (list_all p xs ≡ false) → (list_all p xs ≡ false → (k : ℕ) × (y : X) × (slice_get xs k ≡ Some y) × (p y ≡ false)) → (k : ℕ) × (y : X) × (slice_get (x ∷ xs) k ≡ Some y) × (p y ≡ false)
    by (inl f) rest = (0, x, refl, f)
    by (inr f) rest = let h = rest f in (suc h.0, h.1, h.2, h.3)

module _ {A D N : Type 0} (here : D → Bool) (inside : A → N → Bool) where
  abbrev Caused : Constraint D N → Opened A → Type 0
  Caused a x = (c : Cause A D N) × IsCause here inside a x c

  -- ---- structs

  value_cause : (ds : List (Declaration N)) (o : Bool) (ms : List (Entry A)) (j : ℕ) (d : Declaration N) → slice_get ds j ≡ Some d → is_every d.mark ≡ false → (v : Option A) → under d.label ms ≡ v → value_holds inside d v ≡ false → Caused (object_of ds o) (an_object ms)
  value_cause ds o ms j d at one None is e = (missing j, of_missing at e is)
  value_cause ds o ms j d at one (Some y) is e = (member j d.label y d.value, of_member at (rw one (refl, is)) e)

  declaration_cause : (ds : List (Declaration N)) (o : Bool) (ms : List (Entry A)) (j : ℕ) (d : Declaration N) → slice_get ds j ≡ Some d → (b : Bool) → is_every d.mark ≡ b
      → (if b then list_all (λ (m : Entry A). inside m.1 d.value) ms else value_holds inside d (under d.label ms)) ≡ false → Caused (object_of ds o) (an_object ms)
  declaration_cause ds o ms j d at true all e =
      let f = some_fails (λ (m : Entry A). inside m.1 d.value) ms e in
      (member j (f.1).0 (f.1).1 d.value, of_member at (rw all (there ms f.0 f.1 f.2)) f.3)
  declaration_cause ds o ms j d at false one e = value_cause ds o ms j d at one (under d.label ms) refl e

  struct_cause : (ds : List (Declaration N)) (o : Bool) (ms : List (Entry A)) → fields_hold inside ds o ms ≡ false → Caused (object_of ds o) (an_object ms)
  struct_cause ds o ms e = by o (and_cases (list_all (λ d. declaration_holds inside d ms) ds) _ e)
    where
      by : (o : Bool) → (list_all (λ d. declaration_holds inside d ms) ds ≡ false) ⊎ ((o || list_all (λ (m : Entry A). list_any (λ (d : Declaration N). allows d m.0) ds) ms) ≡ false) → Caused (object_of ds o) (an_object ms)
      by o (inl f) = let h = some_fails (λ d. declaration_holds inside d ms) ds f in declaration_cause ds o ms h.0 h.1 h.2 (is_every (h.1).mark) refl h.3
      by true (inr f) = cc
      by false (inr f) = let h = some_fails (λ (m : Entry A). list_any (λ (d : Declaration N). allows d m.0) ds) ms f in (extra (h.1).0, of_extra (there ms h.0 h.1 h.2) h.3)

  -- ---- lists

  -- a cause of what is behind the first element
  behind : (e : N) (y : A) (es : List N) (rest : Rest N) (ys : List A) (c : Cause A D N) → IsCause here inside (list_of es rest) (a_list ys) c → Caused (list_of (e ∷ es) rest) (a_list (y ∷ ys))
  behind e y es rest ys _ (of_list_kind f) = cc
  behind e y es rest ys _ (of_front {k = k} {e = b} {y = z} at of f) = (element (suc k) z b, of_front at of f)
  behind e y es rest ys _ (of_rest {k = k} {e = b} {y = z} l of f) = (element (suc k) z b, of_rest (omega (arith, l)) of f)
  behind e y es rest ys _ (of_few l) = (few, of_few (omega (arith, l)))
  behind e y es rest ys _ (of_many l) = (many, of_many (omega (arith, l)))

  list_cause : (es : List N) (rest : Rest N) (ys : List A) → elements_hold inside es rest ys ≡ false → Caused (list_of es rest) (a_list ys)
  list_cause [] nothing [] e = cc
  list_cause [] nothing (y ∷ ys) e = (many, of_many (omega arith))
  list_cause [] anything ys e = cc
  list_cause [] (each b) ys e = let f = some_fails (λ y. inside y b) ys e in (element f.0 f.1 b, of_rest (omega arith) f.2 f.3)
  list_cause (b ∷ es) rest [] e = (few, of_few (omega arith))
  list_cause (b ∷ es) rest (y ∷ ys) e = by (and_cases (inside y b) (elements_hold inside es rest ys) e) (list_cause es rest ys)
    where
      by : (inside y b ≡ false) ⊎ (elements_hold inside es rest ys ≡ false) → (elements_hold inside es rest ys ≡ false → Caused (list_of es rest) (a_list ys)) → Caused (list_of (b ∷ es) rest) (a_list (y ∷ ys))
      by (inl f) tail = (element 0 y b, of_front refl refl f)
      by (inr f) tail = let c = tail f in behind b y es rest ys c.0 c.1

  -- ---- all forms

  pub caused : (a : Constraint D N) (x : Opened A) → is_satisfied here inside a x ≡ false → Caused a x
  caused (simple p) x e = (unmet, of_test e)
  caused (all_of rs) x e = let f = some_fails here rs e in (part f.0 f.1, of_part f.2 f.3)
  caused (any_of []) x e = (no_alternative, of_none)
  caused (any_of (r ∷ rs)) x e = (alternative 0 r, of_alternative refl (or_parts (here r) (list_any here rs) e).0)
  caused (object_of ds o) a_null e = (unmet, of_kind refl)
  caused (object_of ds o) (a_boolean b) e = (unmet, of_kind refl)
  caused (object_of ds o) (an_integer z) e = (unmet, of_kind refl)
  caused (object_of ds o) (a_text s) e = (unmet, of_kind refl)
  caused (object_of ds o) (a_list ys) e = (unmet, of_kind refl)
  caused (object_of ds o) (an_object ms) e = struct_cause ds o ms e
  caused (list_of es rest) a_null e = (unmet, of_list_kind refl)
  caused (list_of es rest) (a_boolean b) e = (unmet, of_list_kind refl)
  caused (list_of es rest) (an_integer z) e = (unmet, of_list_kind refl)
  caused (list_of es rest) (a_text s) e = (unmet, of_list_kind refl)
  caused (list_of es rest) (an_object ms) e = (unmet, of_list_kind refl)
  caused (list_of es rest) (a_list ys) e = list_cause es rest ys e

-- a value that is no instance of a rule has a cause
pub refused_for_a_cause : (E : Environment) (I : Rule → Document → Bool) → IsInstance E I → (r : Rule) (x : Document) → I r x ≡ false → (c : Cause Document Rule Rule) × IsCauseOf E I r x c
refused_for_a_cause E I instance r x e =
    caused (λ s. I s x) (λ y s. I s y) (asked_by E r) (opened x) (named (λ p. p) node (λ s. I s x) (λ y s. I s y) (constraint_of E r) (opened x) ∙ sym (instance r x) ∙ e)
