-- A schema without some of its notes, which are keywords that say nothing of validity (own rule).
use Rattle.std.specs.Prelude.{◌≡◌, ◌⊎◌, ℕ, List, Bool, true, false, ◌||◌, Option, Some, None, codes, if◌then◌else◌}
use Rattle.std.specs.Str.{bytes_eq}
use Rattle.cs_document.specs.Document.{Document, null, boolean, integer, text, list, object, Documents, no_documents, document, Members, no_members, member}
use Rattle.cs_profile.specs.Shapes.{form_at, BySchemas, by_form}
use Rattle.cs_profile.specs.declared.keyword.Form.{Form}

-- an object that asks nothing is the schema `true` (JSON Schema Core 2020-12, section 4.3.2)
abbrev pub as_schema : Members → Document
as_schema no_members = boolean true
as_schema (member k v ms) = object (member k v ms)

-- what becomes of a keyword's value
abbrev pub plain_by : Option Form → BySchemas Document → Document
plain_by None answers = answers.none
plain_by (Some f) answers = by_form f answers

-- `left_out` says which keywords are left out
module _ (left_out : List ℕ → Bool) where
  abbrev mutual
    -- a schema below the root
    pub schema_without : Document → Document
    schema_without (object ms) = as_schema (members_without false ms)
    schema_without null = null
    schema_without (boolean b) = boolean b
    schema_without (integer z) = integer z
    schema_without (text s) = text s
    schema_without (list ds) = list ds

    -- the members of the root, or of a schema below it
    pub members_without : Bool → Members → Members
    members_without root no_members = no_members
    members_without root (member k v ms) =
        if left_out k then members_without root ms
        else member k (plain_by (form_at root k) (record { none = v; itself = schema_without v; elements = list_without v; members = map_without v })) (members_without root ms)

    pub list_without : Document → Document
    list_without (list ds) = list (elements_without ds)
    list_without d = d

    pub elements_without : Documents → Documents
    elements_without no_documents = no_documents
    elements_without (document d ds) = document (schema_without d) (elements_without ds)

    pub map_without : Document → Document
    map_without (object ms) = object (named_without ms)
    map_without d = d

    pub named_without : Members → Members
    named_without no_members = no_members
    named_without (member k v ms) = member k (schema_without v) (named_without ms)

  -- a keyword's value, by how it holds schemas, and by its form; for private contracts and proofs alone
  abbrev pub values_without : Document → BySchemas Document
  values_without v = record { none = v; itself = schema_without v; elements = list_without v; members = map_without v }

  abbrev pub value_without : Bool → List ℕ → Document → Document
  value_without root k v = plain_by (form_at root k) (values_without v)

  -- a schema document
  abbrev pub without : Document → Document
  without (object ms) = object (members_without true ms)
  without d = d

-- `default`, and each note that an export can have
abbrev pub is_default : List ℕ → Bool
is_default k = bytes_eq (codes "default") k

abbrev pub is_note : List ℕ → Bool
is_note k = bytes_eq (codes "description") k || is_default k

-- a schema document without its defaults
abbrev pub without_defaults : Document → Document
without_defaults = without is_default

-- and without all its notes
abbrev pub plain : Document → Document
plain = without is_note

-- notes alone are left out; for proofs
abbrev pub LeavesOutNotes : (List ℕ → Bool) → Type 0
LeavesOutNotes left_out = (k : List ℕ) → left_out k ≡ true → (codes "description" ≡ k) ⊎ (codes "default" ≡ k)
