-- Which documents are schemas of the profile, by the keywords that are taken, and the first fault of one that is none (own rule).
use Rattle.std.specs.Prelude.{◌≡◌, ℕ, suc, Bool, true, false, List, [], ◌∷◌, ◌++◌, Option, Some, None, is_some, codes, if◌then◌else◌}
use Rattle.std.specs.Str.{bytes_eq}
use Rattle.cs_document.specs.Document.{Document, null, boolean, integer, text, list, object, Documents, no_documents, document, Members, no_members, member}
use Rattle.cs_profile.specs.Keywords.{reference_start, text_after, defined}
use Rattle.cs_profile.specs.Shapes.{form_at, taken_at, has_form, BySchemas, by_form}
use Rattle.cs_profile.specs.declared.keyword.Form.{Form}
use Rattle.cs_profile.specs.declared.keyword.Vocabulary.{Vocabulary}
use Rattle.cs_profile.specs.Places.{at_key, at_index}
use Rattle.cs_profile.specs.Loops.{NoLoop}

-- a fault with its place and its name
pub data Fault : Type 0 where
  unknown : List ℕ → List ℕ → Fault
  misshapen : List ℕ → List ℕ → Fault
  undefined : List ℕ → List ℕ → Fault

-- what the walk over a schema meets: a value where a schema is to stand, or a keyword with its value, in
-- the root or below it
pub data Visit : Type 0 where
  value_at : List ℕ → Document → Visit
  keyword_at : Bool → List ℕ → List ℕ → Document → Visit

-- what the walk meets inside a keyword's value
abbrev pub within : Option Form → BySchemas (List Visit) → List Visit
within None walks = []
within (Some f) walks = by_form f walks

-- what the walk meets, in its order: the keys in their order, and the schemas under a key before the next key
abbrev mutual
  pub visits : Bool → List ℕ → Document → List Visit
  visits root place (object ms) = member_visits root place ms
  visits root place null = value_at place null ∷ []
  visits root place (boolean b) = value_at place (boolean b) ∷ []
  visits root place (integer z) = value_at place (integer z) ∷ []
  visits root place (text s) = value_at place (text s) ∷ []
  visits root place (list ds) = value_at place (list ds) ∷ []

  pub member_visits : Bool → List ℕ → Members → List Visit
  member_visits root place no_members = []
  member_visits root place (member k v ms) =
      (keyword_at root place k v ∷ within (form_at root k) (record {
        none = [];
        itself = visits false (at_key place k) v;
        elements = list_visits (at_key place k) v;
        members = map_visits (at_key place k) v;
      }))
      ++ member_visits root place ms

  pub list_visits : List ℕ → Document → List Visit
  list_visits place (list ds) = element_visits place 0 ds
  list_visits place _ = []

  pub element_visits : List ℕ → ℕ → Documents → List Visit
  element_visits place i no_documents = []
  element_visits place i (document d ds) = visits false (at_index place i) d ++ element_visits place (suc i) ds

  pub map_visits : List ℕ → Document → List Visit
  map_visits place (object ms) = named_visits place ms
  map_visits place _ = []

  pub named_visits : List ℕ → Members → List Visit
  named_visits place no_members = []
  named_visits place (member k v ms) = visits false (at_key place k) v ++ named_visits place ms

-- the first answer of a function over a list
abbrev pub or_else : {A : Type 0} → Option A → Option A → Option A
or_else None b = b
or_else (Some x) b = Some x

abbrev pub first : {A B : Type 0} → (A → Option B) → List A → Option B
first f [] = None
first f (x ∷ xs) = or_else (f x) (first f xs)

-- the fault of what the walk meets: a keyword that is none of those that are taken, or a value without its shape
abbrev pub shape_fault : List ℕ → List ℕ → Bool → Option Fault
shape_fault place name ok = if ok then None else Some (misshapen place name)

abbrev pub form_fault : List ℕ → List ℕ → Document → Option Form → Option Fault
form_fault place name v None = Some (unknown place name)
form_fault place name v (Some f) = shape_fault place name (has_form f v)

abbrev pub is_truth : Document → Bool
is_truth (boolean b) = true
is_truth _ = false

abbrev pub fault_of : Vocabulary → Visit → Option Fault
fault_of taken (value_at place d) = shape_fault place [] (is_truth d)
fault_of taken (keyword_at root place k v) = form_fault place k v (taken_at taken root k)

-- a `$ref` to a name that is not defined
abbrev pub unless_defined : (List ℕ → Bool) → List ℕ → Option (List ℕ) → Option Fault
unless_defined is_defined place None = None
unless_defined is_defined place (Some n) = if is_defined n then None else Some (undefined place n)

abbrev pub reference_fault : (List ℕ → Bool) → List ℕ → Document → Option Fault
reference_fault is_defined place (text t) = unless_defined is_defined place (text_after reference_start t)
reference_fault is_defined place _ = None

abbrev pub undefined_at : (List ℕ → Bool) → Visit → Option Fault
undefined_at is_defined (value_at place d) = None
undefined_at is_defined (keyword_at root place k v) = if bytes_eq k (codes "$ref") then reference_fault is_defined place v else None

-- the first fault of a keyword or a value, and the first `$ref` to a name that is not defined
abbrev pub walk_fault : Vocabulary → Document → Option Fault
walk_fault taken R = first (fault_of taken) (visits true [] R)

abbrev pub name_fault : Document → Option Fault
name_fault R = first (undefined_at (λ n. is_some (defined R n))) (visits true [] R)

-- a schema of the profile: it has only keywords that are taken, each with its shape; each `$ref` names a
-- definition; and no definition reaches itself directly
pub record IsSchema (taken : Vocabulary) (R : Document) : Type 0 where
  pub shaped : walk_fault taken R ≡ None
  pub named : name_fault R ≡ None
  pub no_loop : NoLoop R
