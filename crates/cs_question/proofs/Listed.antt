-- Lists: their elements by their places.
use Rattle.std.proofs.Common.{◌≡◌, ℕ, zero, suc, ◌<◌, ◌≤◌, ◌⊎◌, inl, inr, Bool, true, false, true≢false, List, [], ◌∷◌, Some, None, length, take, drop, refl, sym, ap, ◌∙◌, subst, arith}
use Rattle.std.specs.Prelude.{slice_get}
use Rattle.std.specs.List.{list_all, AllByRecursion}
use Rattle.std.proofs.lemmas.Bool.{and_parts, and_cases}
use Rattle.std.proofs.lemmas.Option.{same_Some}
use Rattle.cs_document.specs.Document.{Document, Documents, no_documents, document, list, elements, IsDocument, AreDocuments, depth, documents_depth}
use Rattle.cs_instance.specs.Constraint.{Rest, nothing, anything, each, rest_holds, elements_hold}
use Rattle.cs_question.specs.Elements.{element_at, fits, IsFrom}
use Rattle.cs_question.specs.Spread.{SomeOf}
use Rattle.cs_question.specs.Truth.{IsInner}

-- ---- places in lists

pub each_got : {X : Type 0} (P : X → Type 0) (xs : List X) (i : ℕ) (x : X) → AllByRecursion P xs → slice_get xs i ≡ Some x → P x
each_got P [] i x h e = cc
each_got P (y ∷ xs) zero x h e = subst P (same_Some y x e) h.0
each_got P (y ∷ xs) (suc i) x h e = each_got P xs i x h.1 e

pub there : {X : Type 0} (xs : List X) (i : ℕ) → i < length xs → (x : X) × (slice_get xs i ≡ Some x)
there [] i l = absurd (omega (arith, l))
there (y ∷ xs) zero l = (y, refl)
there (y ∷ xs) (suc i) l = there xs i (omega (arith, l))

pub got_taken : {X : Type 0} (xs : List X) (count i : ℕ) → i < count → slice_get (take count xs) i ≡ slice_get xs i
got_taken [] zero i l = absurd (omega (arith, l))
got_taken [] (suc n) i l = refl
got_taken (x ∷ xs) zero i l = absurd (omega (arith, l))
got_taken (x ∷ xs) (suc n) zero l = refl
got_taken (x ∷ xs) (suc n) (suc i) l = got_taken xs n i (omega (arith, l))

pub each_dropped : {X : Type 0} (P : X → Type 0) (xs : List X) (k : ℕ) → ((i : ℕ) (x : X) → k ≤ i → slice_get xs i ≡ Some x → P x) → AllByRecursion P (drop k xs)
each_dropped P [] zero f = tt
each_dropped P [] (suc k) f = tt
each_dropped P (x ∷ xs) zero f = (f 0 x (omega arith) refl, each_dropped P xs zero (λ i y l e. f (suc i) y (omega arith) e))
each_dropped P (x ∷ xs) (suc k) f = each_dropped P xs k (λ i y l e. f (suc i) y (omega (arith, l)) e)

pub some_dropped : {X : Type 0} (P : X → Type 0) (xs : List X) (k i : ℕ) (x : X) → k ≤ i → slice_get xs i ≡ Some x → P x → SomeOf P (drop k xs)
some_dropped P [] k i x l e h = cc
some_dropped P (y ∷ xs) zero zero x l e h = inl (subst P (sym (same_Some y x e)) h)
some_dropped P (y ∷ xs) zero (suc i) x l e h = inr (some_dropped P xs zero i x (omega arith) e h)
some_dropped P (y ∷ xs) (suc k) zero x l e h = absurd (omega (arith, l))
some_dropped P (y ∷ xs) (suc k) (suc i) x l e h = some_dropped P xs k i x (omega (arith, l)) e h

pub dropped_all : {X : Type 0} (xs : List X) (k : ℕ) → length xs ≡ k → drop k xs ≡ []
dropped_all [] zero e = refl
dropped_all [] (suc k) e = refl
dropped_all (x ∷ xs) zero e = absurd (omega (arith, e))
dropped_all (x ∷ xs) (suc k) e = dropped_all xs k (omega (arith, e))

-- ---- the elements of a document

inner_below : (n : ℕ) (ds : Documents) → AreDocuments ds → documents_depth ds < n → AllByRecursion (IsInner n) (elements ds)
inner_below n no_documents h l = tt
inner_below n (document d ds) h l = ((h.0, omega (arith, l)), inner_below n ds h.1 (omega (arith, l)))

pub inner_elements : (n : ℕ) (ds : Documents) → IsDocument (list ds) → depth (list ds) ≤ n → AllByRecursion (IsInner n) (elements ds)
inner_elements n ds h l = inner_below n ds h (omega (arith, l))

-- ---- what a list literal asks

module _ (inside : Document → ℕ → Bool) where
  all_got : (e : ℕ) (ys : List Document) (i : ℕ) (y : Document) → list_all (λ z. inside z e) ys ≡ true → slice_get ys i ≡ Some y → inside y e ≡ true
  all_got e [] i y h g = cc
  all_got e (z ∷ ys) zero y h g = ap (λ x. inside x e) (sym (same_Some z y g)) ∙ (and_parts (inside z e) (list_all (λ x. inside x e) ys) h).0
  all_got e (z ∷ ys) (suc i) y h g = all_got e ys i y (and_parts (inside z e) (list_all (λ x. inside x e) ys) h).1 g

  rest_fits : (rest : Rest ℕ) (ys : List Document) (i : ℕ) (y : Document) → rest_holds inside rest ys ≡ true → slice_get ys i ≡ Some y → fits inside rest y ≡ true
  rest_fits nothing [] i y h g = cc
  rest_fits nothing (z ∷ ys) i y h g = cc
  rest_fits anything ys i y h g = refl
  rest_fits (each e) ys i y h g = all_got e ys i y h g

  -- each element is as its place asks
  pub element_fits : (es : List ℕ) (rest : Rest ℕ) (ys : List Document) (i : ℕ) (y : Document) → elements_hold inside es rest ys ≡ true → slice_get ys i ≡ Some y → fits inside (element_at es rest i) y ≡ true
  element_fits [] rest ys i y h g = rest_fits rest ys i y h g
  element_fits (e ∷ es) rest [] i y h g = cc
  element_fits (e ∷ es) rest (z ∷ ys) zero y h g = ap (λ x. inside x e) (sym (same_Some z y g)) ∙ (and_parts (inside z e) (elements_hold inside es rest ys) h).0
  element_fits (e ∷ es) rest (z ∷ ys) (suc i) y h g = element_fits es rest ys i y (and_parts (inside z e) (elements_hold inside es rest ys) h).1 g

  pub long : (es : List ℕ) (rest : Rest ℕ) (ys : List Document) → elements_hold inside es rest ys ≡ true → length es ≤ length ys
  long [] rest ys h = omega arith
  long (e ∷ es) rest [] h = cc
  long (e ∷ es) rest (z ∷ ys) h = let l = long es rest ys (and_parts (inside z e) (elements_hold inside es rest ys) h).1 in omega (arith, l)

  -- a list that is long enough and fails has an element that isn't as its place asks
  abbrev pub Fails : (ℕ → Document → Bool) → List Document → Type 0
  Fails p ys = (i : ℕ) × (y : Document) × (slice_get ys i ≡ Some y) × (p i y ≡ false)

  all_fails : (e : ℕ) (ys : List Document) → list_all (λ z. inside z e) ys ≡ false → Fails (λ i y. inside y e) ys
  all_fails e [] h = cc
  all_fails e (z ∷ ys) h = elim (and_cases (inside z e) (list_all (λ x. inside x e) ys) h) [
    | inl k ↦ (0, z, refl, k)
    | inr k ↦ let f = all_fails e ys k in (suc f.0, f.1, f.2, f.3)
  ]

  rest_fails : (rest : Rest ℕ) (ys : List Document) → rest_holds inside rest ys ≡ false → Fails (λ i y. fits inside rest y) ys
  rest_fails nothing [] h = cc
  rest_fails nothing (z ∷ ys) h = (0, z, refl, refl)
  rest_fails anything ys h = cc
  rest_fails (each e) ys h = all_fails e ys h

  pub fails : (es : List ℕ) (rest : Rest ℕ) (ys : List Document) → length es ≤ length ys → elements_hold inside es rest ys ≡ false → Fails (λ i y. fits inside (element_at es rest i) y) ys
  fails [] rest ys l h = rest_fails rest ys h
  fails (e ∷ es) rest [] l h = absurd (omega (arith, l))
  fails (e ∷ es) rest (z ∷ ys) l h = elim (and_cases (inside z e) (elements_hold inside es rest ys) h) [
    | inl k ↦ (0, z, refl, k)
    | inr k ↦ let f = fails es rest ys (omega (arith, l)) k in (suc f.0, f.1, f.2, f.3)
  ]

pub behind_is : (es : List ℕ) (rest : Rest ℕ) (i : ℕ) → length es ≤ i → element_at es rest i ≡ rest
behind_is [] rest i l = refl
behind_is (e ∷ es) rest zero l = absurd (omega (arith, l))
behind_is (e ∷ es) rest (suc i) l = behind_is es rest i (omega (arith, l))

-- from a place on, behind a front, each place asks the same
pub element_from : (es : List ℕ) (rest : Rest ℕ) (place i : ℕ) (b : Bool) → IsFrom place b i → (b ≡ true → length es ≤ place) → element_at es rest i ≡ element_at es rest place
element_from es rest place i false is h = ap (element_at es rest) is
element_from es rest place i true l h = let k = h refl in behind_is es rest i (omega (arith, k, l)) ∙ sym (behind_is es rest place k)

pub element_got : (es : List ℕ) (rest : Rest ℕ) (i e : ℕ) → slice_get es i ≡ Some e → element_at es rest i ≡ each e
element_got [] rest i e g = cc
element_got (d ∷ es) rest zero e g = ap each (same_Some d e g)
element_got (d ∷ es) rest (suc i) e g = element_got es rest i e g

pub element_past : (es : List ℕ) (rest : Rest ℕ) (i : ℕ) → slice_get es i ≡ None → element_at es rest i ≡ rest
element_past [] rest i g = refl
element_past (d ∷ es) rest zero g = cc
element_past (d ∷ es) rest (suc i) g = element_past es rest i g

pub dropped_got : {X : Type 0} (P : X → Type 0) (xs : List X) (k i : ℕ) (x : X) → k ≤ i → slice_get xs i ≡ Some x → AllByRecursion P (drop k xs) → P x
dropped_got P [] k i x l e h = cc
dropped_got P (y ∷ xs) zero zero x l e h = subst P (same_Some y x e) h.0
dropped_got P (y ∷ xs) zero (suc i) x l e h = dropped_got P xs zero i x (omega arith) e h.1
dropped_got P (y ∷ xs) (suc k) zero x l e h = absurd (omega (arith, l))
dropped_got P (y ∷ xs) (suc k) (suc i) x l e h = dropped_got P xs k i x (omega (arith, l)) e h
