-- What is at a place: its walk and its faults are those at the empty place, with the place in front.
use Rattle.std.proofs.Common.{◌≡◌, ℕ, suc, Bool, true, false, List, [], ◌∷◌, ◌++◌, map, Option, Some, None, option_map, codes, bytes_eq, refl, sym, ap, ap₂, ◌∙◌, append_assoc, append-nil, if◌then◌else◌}
use Rattle.std.proofs.lemmas.List.{map-append}
use Rattle.std.specs.Fmt.{decimal}
use Rattle.cs_document.specs.Document.{Document, null, boolean, integer, text, list, object, Documents, no_documents, document, Members, no_members, member}
use Rattle.cs_profile.specs.Keywords.{reference_start, text_after}
use Rattle.cs_profile.specs.Places.{at_key, at_index, escaped}
use Rattle.cs_profile.specs.Shapes.{form_at, taken_at, has_form, by_form}
use Rattle.cs_profile.specs.Profile.{Fault, undefined, Visit, value_at, keyword_at, first, or_else, fault_of, shape_fault, form_fault, is_truth, undefined_at, reference_fault, unless_defined, within, visits, member_visits, list_visits, element_visits, map_visits, named_visits}
use Rattle.cs_profile.specs.Values.{value_visits}
use Rattle.cs_profile.specs.declared.keyword.Vocabulary.{Vocabulary}
use Rattle.cs_profile.specs.declared.keyword.Form.{Form}
use Rattle.cs_profile.specs.declared.keyword.Form.TheVariants as form
use Rattle.cs_schema.specs.Reading.{inside, below}

-- ---- places

below_key : (p q k : List ℕ) → at_key (p ++ q) k ≡ p ++ at_key q k
unfolding at_key
below_key p q k = append_assoc p q (codes "/" ++ escaped k)

below_index : (p q : List ℕ) (i : ℕ) → at_index (p ++ q) i ≡ p ++ at_index q i
unfolding at_index
below_index p q i = append_assoc p q (codes "/" ++ decimal i)

-- ---- the walk

-- what is met, with a place in front of its own
abbrev pub placed : List ℕ → Visit → Visit
placed p (value_at q d) = value_at (p ++ q) d
placed p (keyword_at root q k v) = keyword_at root (p ++ q) k v

within_placed : (p q r : List ℕ) (f : Option Form) (v : Document)
    → visits false r v ≡ map (placed p) (visits false q v)
    → list_visits r v ≡ map (placed p) (list_visits q v)
    → map_visits r v ≡ map (placed p) (map_visits q v)
    → within f (value_visits r v) ≡ map (placed p) (within f (value_visits q v))
within_placed p q r None v a b c = refl
within_placed p q r (Some form.Dialect) v a b c = refl
within_placed p q r (Some form.Reference) v a b c = refl
within_placed p q r (Some form.Kind) v a b c = refl
within_placed p q r (Some form.Anything) v a b c = refl
within_placed p q r (Some form.Array) v a b c = refl
within_placed p q r (Some form.Integer) v a b c = refl
within_placed p q r (Some form.Count) v a b c = refl
within_placed p q r (Some form.Texts) v a b c = refl
within_placed p q r (Some form.Text) v a b c = refl
within_placed p q r (Some form.Schema) v a b c = a
within_placed p q r (Some form.Schemas) v a b c = b
within_placed p q r (Some form.NamedSchemas) v a b c = c

both : (p : List ℕ) (xs ys as' bs : List Visit) → xs ≡ map (placed p) as' → ys ≡ map (placed p) bs → xs ++ ys ≡ map (placed p) (as' ++ bs)
both p xs ys as' bs a b = ap₂ (λ us vs. us ++ vs) a b ∙ sym (map-append (placed p) as' bs)

mutual
  pub visits_placed : (root : Bool) (p q : List ℕ) (d : Document) → visits root (p ++ q) d ≡ map (placed p) (visits root q d)
  visits_placed root p q null = refl
  visits_placed root p q (boolean b) = refl
  visits_placed root p q (integer z) = refl
  visits_placed root p q (text s) = refl
  visits_placed root p q (list ds) = refl
  visits_placed root p q (object ms) = members_placed root p q ms

  members_placed : (root : Bool) (p q : List ℕ) (ms : Members) → member_visits root (p ++ q) ms ≡ map (placed p) (member_visits root q ms)
  members_placed root p q no_members = refl
  members_placed root p q (member k v ms) =
      let at = below_key p q k in
      let r = at_key q k in
      both p _ _ (keyword_at root q k v ∷ within (form_at root k) (value_visits r v)) (member_visits root q ms)
      (ap (λ vs. keyword_at root (p ++ q) k v ∷ vs)
      (within_placed p r (at_key (p ++ q) k) (form_at root k) v
      (ap (λ s. visits false s v) at ∙ visits_placed false p r v)
      (ap (λ s. list_visits s v) at ∙ list_placed p r v)
      (ap (λ s. map_visits s v) at ∙ map_placed p r v)))
      (members_placed root p q ms)

  list_placed : (p q : List ℕ) (d : Document) → list_visits (p ++ q) d ≡ map (placed p) (list_visits q d)
  list_placed p q null = refl
  list_placed p q (boolean b) = refl
  list_placed p q (integer z) = refl
  list_placed p q (text s) = refl
  list_placed p q (list ds) = elements_placed p q 0 ds
  list_placed p q (object ms) = refl

  elements_placed : (p q : List ℕ) (i : ℕ) (ds : Documents) → element_visits (p ++ q) i ds ≡ map (placed p) (element_visits q i ds)
  elements_placed p q i no_documents = refl
  elements_placed p q i (document d ds) =
      both p _ _ (visits false (at_index q i) d) (element_visits q (suc i) ds)
      (ap (λ s. visits false s d) (below_index p q i) ∙ visits_placed false p (at_index q i) d)
      (elements_placed p q (suc i) ds)

  map_placed : (p q : List ℕ) (d : Document) → map_visits (p ++ q) d ≡ map (placed p) (map_visits q d)
  map_placed p q null = refl
  map_placed p q (boolean b) = refl
  map_placed p q (integer z) = refl
  map_placed p q (text s) = refl
  map_placed p q (list ds) = refl
  map_placed p q (object ms) = named_placed p q ms

  named_placed : (p q : List ℕ) (ms : Members) → named_visits (p ++ q) ms ≡ map (placed p) (named_visits q ms)
  named_placed p q no_members = refl
  named_placed p q (member k v ms) =
      both p _ _ (visits false (at_key q k) v) (named_visits q ms)
      (ap (λ s. visits false s v) (below_key p q k) ∙ visits_placed false p (at_key q k) v)
      (named_placed p q ms)

-- ---- faults

-- a fault of a visit is at the visit's place
abbrev pub IsPlaced : (Visit → Option Fault) → Type 0
IsPlaced f = (p : List ℕ) (v : Visit) → f (placed p v) ≡ option_map (below p) (f v)

or_else_placed : (p : List ℕ) (a b : Option Fault) → or_else (option_map (below p) a) (option_map (below p) b) ≡ option_map (below p) (or_else a b)
or_else_placed p None b = refl
or_else_placed p (Some x) b = refl

first_placed : (f : Visit → Option Fault) → IsPlaced f → (p : List ℕ) (vs : List Visit) → first f (map (placed p) vs) ≡ option_map (below p) (first f vs)
first_placed f h p [] = refl
first_placed f h p (v ∷ vs) = ap₂ or_else (h p v) (first_placed f h p vs) ∙ or_else_placed p (f v) (first f vs)

shape_placed : (p q n : List ℕ) (ok : Bool) → shape_fault (p ++ q) n ok ≡ option_map (below p) (shape_fault q n ok)
shape_placed p q n true = refl
shape_placed p q n false = refl

form_placed : (p q n : List ℕ) (v : Document) (f : Option Form) → form_fault (p ++ q) n v f ≡ option_map (below p) (form_fault q n v f)
form_placed p q n v None = refl
form_placed p q n v (Some f) = shape_placed p q n (has_form f v)

pub faults_placed : (taken : Vocabulary) → IsPlaced (fault_of taken)
faults_placed taken p (value_at q d) = shape_placed p q [] (is_truth d)
faults_placed taken p (keyword_at root q k v) = form_placed p q k v (taken_at taken root k)

module _ (known : List ℕ → Bool) where
  test_placed : (p q n : List ℕ) (ok : Bool) → (if ok then None else Some (undefined (p ++ q) n)) ≡ option_map (below p) (if ok then None else Some (undefined q n))
  test_placed p q n true = refl
  test_placed p q n false = refl

  unless_placed : (p q : List ℕ) (o : Option (List ℕ)) → unless_defined known (p ++ q) o ≡ option_map (below p) (unless_defined known q o)
  unless_placed p q None = refl
  unless_placed p q (Some n) = test_placed p q n (known n)

  reference_placed : (p q : List ℕ) (v : Document) → reference_fault known (p ++ q) v ≡ option_map (below p) (reference_fault known q v)
  reference_placed p q null = refl
  reference_placed p q (boolean b) = refl
  reference_placed p q (integer z) = refl
  reference_placed p q (text t) = unless_placed p q (text_after reference_start t)
  reference_placed p q (list ds) = refl
  reference_placed p q (object ms) = refl

  if_reference_placed : (p q : List ℕ) (v : Document) (t : Bool) → (if t then reference_fault known (p ++ q) v else None) ≡ option_map (below p) (if t then reference_fault known q v else None)
  if_reference_placed p q v true = reference_placed p q v
  if_reference_placed p q v false = refl

  pub names_placed : IsPlaced (undefined_at known)
  names_placed p (value_at q d) = refl
  names_placed p (keyword_at root q k v) = if_reference_placed p q v (bytes_eq k (codes "$ref"))

-- ---- at a place

module _ (f : Visit → Option Fault) (h : IsPlaced f) where
  -- of a schema
  pub value_fault_at : (p : List ℕ) (d : Document) → first f (visits false p d) ≡ option_map (below p) (first f (visits false [] d))
  value_fault_at p d = ap (λ s. first f (visits false s d)) (sym (append-nil p)) ∙ ap (first f) (visits_placed false p [] d) ∙ first_placed f h p (visits false [] d)

  -- of the schemas in a value
  pub inside_fault_at : (p : List ℕ) (r : Form) (v : Document) → first f (by_form r (value_visits p v)) ≡ option_map (below p) (first f (inside r v))
  inside_fault_at p r v =
      let at = sym (append-nil p) in
      ap (first f) (within_placed p [] p (Some r) v
      (ap (λ s. visits false s v) at ∙ visits_placed false p [] v)
      (ap (λ s. list_visits s v) at ∙ list_placed p [] v)
      (ap (λ s. map_visits s v) at ∙ map_placed p [] v))
      ∙ first_placed f h p (inside r v)
