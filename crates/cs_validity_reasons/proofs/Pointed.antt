-- The steps of a JSON pointer that a chain takes lead from the document to the value at its end.
use Rattle.std.proofs.Common.{◌≡◌, ℕ, zero, suc, Bool, true, false, List, [], ◌∷◌, ◌++◌, Option, Some, Less, if◌then◌else◌, Contains, refl, sym, ap, ◌∙◌, subst}
use Rattle.std.specs.Prelude.{slice_get}
use Rattle.std.specs.Str.{bytes_eq}
use Rattle.std.specs.Ordering.{nat_cmp, is_eq}
use Rattle.std.specs.Cmp.Lexicographic.{slice_cmp}
use Rattle.std.proofs.lemmas.Grind.{flat_map-append}
use Rattle.std.proofs.lemmas.Map.Text.{is_eq-slice_cmp}
use Rattle.std.proofs.lemmas.Option.{none-some, same_Some}
use Rattle.std.proofs.lemmas.Slice.Eq.{bytes_eq-Decides}
use Rattle.cs_document.specs.Document.{Document, list, object, Documents, no_documents, document, Members, no_members, member, Entry, elements, entries, under, KeysAbove, IsDocument, AreDocuments, AreMembers}
use Rattle.cs_document.specs.Opened.{Opened, a_list, an_object, opened}
use Rattle.cs_rules.specs.Pointers.{Step, key, place, LeadsTo, At}
use Rattle.cs_profile.specs.Constraint.{Assertion, Constraint}
use Rattle.cs_validity_reasons.specs.Causes.{Cause, IsDenied, of_keyword, of_reference, of_undefined, of_part, of_alternative, of_none, of_missing, of_property, of_additional, of_prefix, of_items, IsCause, of_never, of_claim}
use Rattle.cs_validity_reasons.specs.Why.{Way, way_of, led, step_of, steps_of, IsRefused, whole, next}
use Rattle.cs_validity_reasons.proofs.Contained.{place_of}

-- ---- steps

pub at_more : (ss ts : List Step) (x y z : Document) → At ss x y → At ts y z → At (ss ++ ts) x z
at_more [] ts x y z a b = subst (λ w. At ts w z) (sym a) b
at_more (s ∷ ss) ts x y z a b = (a.0, a.1, at_more ss ts a.0 y z a.2 b)

pub steps_more : (ways more : List Way) → steps_of (ways ++ more) ≡ steps_of ways ++ steps_of more
steps_more ways more = flat_map-append step_of ways more

-- ---- values inside a document

value_fits : (k : List ℕ) (ms : Members) (y : Document) → AreMembers ms → under k (entries ms) ≡ Some y → IsDocument y
value_fits k no_members y h e = cc
value_fits k (member l d ms) y h e =
    (elim (bytes_eq k l) as (λ t. (if t then Some d else under k (entries ms)) ≡ Some y → IsDocument y) [
      | true ↦ λ f. subst IsDocument (same_Some d y f) h.1
      | false ↦ λ f. value_fits k ms y h.2 f
    ]) e

element_fits : (n : ℕ) (ds : Documents) (y : Document) → AreDocuments ds → slice_get (elements ds) n ≡ Some y → IsDocument y
element_fits n no_documents y h e = cc
element_fits zero (document d ds) y h e = subst IsDocument (same_Some d y e) h.0
element_fits (suc n) (document d ds) y h e = element_fits n ds y h.1 e

step_fits : (s : Step) (x y : Document) → IsDocument x → LeadsTo s (opened x) y → IsDocument y
step_fits (key k) (object ms) y h e = value_fits k ms y h e
step_fits (place n) (list ds) y h e = element_fits n ds y h e
step_fits _ _ y h e = absurd e

pub at_fits : (ss : List Step) (x y : Document) → IsDocument x → At ss x y → IsDocument y
at_fits [] x y h e = subst IsDocument e h
at_fits (s ∷ ss) x y h a = at_fits ss a.0 y (step_fits s x a.0 h a.1) a.2

-- ---- what stands beside a key of a document stands under it

apart : (k l : List ℕ) → slice_cmp nat_cmp l k ≡ Less → bytes_eq k l ≡ false
apart k l h = by (bytes_eq k l) refl
  where
    by : (b : Bool) → bytes_eq k l ≡ b → b ≡ false
    by true e =
        let same : k ≡ l = (bytes_eq-Decides k l).0 e in
        let turned : bytes_eq l k ≡ true = (bytes_eq-Decides l k).1 (sym same) in
        let below : bytes_eq l k ≡ false = sym (is_eq-slice_cmp l k) ∙ ap is_eq h in
        sym turned ∙ below
    by false e = refl

keys_above : (l k : List ℕ) (y : Document) (ms : Members) (j : ℕ) → KeysAbove l ms → slice_get (entries ms) j ≡ Some (k, y) → slice_cmp nat_cmp l k ≡ Less
keys_above l k y no_members j h e = cc
keys_above l k y (member m d ms) zero h e = subst (λ q. slice_cmp nat_cmp l q ≡ Less) (ap (λ (q : Entry Document). q.0) (same_Some (m, d) (k, y) e)) h.0
keys_above l k y (member m d ms) (suc j) h e = keys_above l k y ms j h.1 e

under_key : (k : List ℕ) (y : Document) (ms : Members) (j : ℕ) → AreMembers ms → slice_get (entries ms) j ≡ Some (k, y) → under k (entries ms) ≡ Some y
under_key k y no_members j h e = cc
under_key k y (member l d ms) zero h e =
    let p = same_Some (l, d) (k, y) e in
    let found : bytes_eq k l ≡ true = (bytes_eq-Decides k l).1 (ap (λ (q : Entry Document). q.0) (sym p)) in
    ap (λ t. if t then Some d else under k (entries ms)) found ∙ ap (λ (q : Entry Document). Some q.1) p
under_key k y (member l d ms) (suc j) h e =
    ap (λ t. if t then Some d else under k (entries ms)) (apart k l (keys_above l k y ms j h.0 e)) ∙ under_key k y ms j h.2 e

-- ---- a cause leads to a value at its step

module _ (x : Document) (fits : IsDocument x) where
  moved : (ss : List Step) (y v : Document) (s t : Document) → ◌≡◌ {A = Option (Document × Document)} (Some (y, s)) (Some (v, t)) → At ss x y → At ss x v
  moved ss y v s t e h = let p = same_Some (y, s) (v, t) e in subst (λ (q : Document × Document). At ss x q.0) p h

  one_step : (s : Step) (o : Opened Document) (y : Document) → opened x ≡ o → LeadsTo s o y → At (s ∷ []) x y
  one_step s o y e h = (y, subst (λ q. LeadsTo s q y) (sym e) h, refl)

  entry_under : (d : Document) (ms : List (Entry Document)) (k : List ℕ) (y : Document) → IsDocument d → opened d ≡ an_object ms → Contains ms (k, y) → under k ms ≡ Some y
  entry_under (object es) ms k y h o m =
      let same : entries es ≡ ms = cc in
      let p = place_of ms (k, y) m in
      ap (under k) (sym same) ∙ under_key k y es p.0 h (ap (λ q. slice_get q p.0) same ∙ p.1)
  entry_under _ ms k y h o m = cc

  module _ (here : Document → Bool) (inside : Document → Document → Bool) where
    denied_at : {a : Assertion Document Document} {c : Cause Document Document Document} → IsDenied here inside x (opened x) a c → (y p : Document) → led x c ≡ Some (y, p) → At (steps_of (way_of c)) x y
    denied_at (of_keyword e h) y p l = absurd (none-some _ l)
    denied_at (of_reference h) y p l = moved [] x y _ p l refl
    denied_at of_undefined y p l = absurd (none-some _ l)
    denied_at (of_part e h) y p l = moved [] x y _ p l refl
    denied_at (of_alternative h e) y p l = moved [] x y _ p l refl
    denied_at of_none y p l = absurd (none-some _ l)
    denied_at (of_missing o m e) y p l = absurd (none-some _ l)
    denied_at (of_property {k = k} {y = z} {ms = ms} o m e h) y p l = moved (key k ∷ []) z y _ p l (one_step (key k) (an_object ms) z o e)
    denied_at (of_additional {k = k} {y = z} {ms = ms} o m e h) y p l = moved (key k ∷ []) z y _ p l (one_step (key k) (an_object ms) z o (entry_under x ms k z fits o m))
    denied_at (of_prefix {k = k} {y = z} {ys = ys} o e f h) y p l = moved (place k ∷ []) z y _ p l (one_step (place k) (a_list ys) z o f)
    denied_at (of_items {k = k} {y = z} {ys = ys} o m f h) y p l = moved (place k ∷ []) z y _ p l (one_step (place k) (a_list ys) z o f)

    pub cause_at : {a : Constraint Document Document} {c : Cause Document Document Document} → IsCause here inside x (opened x) a c → (y p : Document) → led x c ≡ Some (y, p) → At (steps_of (way_of c)) x y
    cause_at of_never y p l = absurd (none-some _ l)
    cause_at (of_claim m h) y p l = denied_at h y p l

-- ---- a chain leads to the value at its steps

pub refused_at : (R : Document) (V : Document → Document → Bool) (s0 x0 : Document) → IsDocument x0 → {ways : List Way} {s x : Document} → IsRefused R V s0 x0 ways s x → At (steps_of ways) x0 x
refused_at R V s0 x0 fits (whole e) = refl
refused_at R V s0 x0 fits (next {ways} {s} {x} {p} {y} {c} r why l) =
    let before = refused_at R V s0 x0 fits r in
    let step = cause_at x (at_fits (steps_of ways) x0 x fits before) (λ q. V q x) (λ z q. V q z) why y p l in
    subst (λ ss. At ss x0 y) (sym (steps_more ways (way_of c))) (at_more (steps_of ways) (steps_of (way_of c)) x0 x y before step)
