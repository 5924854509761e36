-- A schema without the keywords that say nothing of validity (own rule).
use Rattle.std.specs.Prelude.{◌≡◌, ℕ, Bool, true, false, List, Option, Some, None, codes, if◌then◌else◌}
use Rattle.cs_document.specs.Document.{Document, null, boolean, integer, text, list, object, Documents, no_documents, document, Members, no_members, member, put}
use Rattle.cs_profile.specs.Shapes.{form_at, keeping, is_kept, BySchemas, by_form, dialect}
use Rattle.cs_profile.specs.declared.keyword.Form.{Form}
use Rattle.cs_profile.specs.Validity.{IsValidity}

abbrev pub with_member : Option Document → List ℕ → Members → Members
with_member None k ms = ms
with_member (Some v) k ms = member k v ms

-- what becomes of a keyword's value
abbrev pub trimmed_as : Option Form → Document → BySchemas Document → Option Document
trimmed_as None v trims = Some v
trimmed_as (Some f) v trims = if is_kept (keeping f) v then Some (by_form f trims) else None

abbrev mutual
  pub trimmed : Bool → Document → Document
  trimmed root (object ms) = object (trimmed_members root ms)
  trimmed root null = null
  trimmed root (boolean b) = boolean b
  trimmed root (integer z) = integer z
  trimmed root (text s) = text s
  trimmed root (list ds) = list ds

  pub trimmed_members : Bool → Members → Members
  trimmed_members root no_members = no_members
  trimmed_members root (member k v ms) =
      with_member (trimmed_as (form_at root k) v (record { none = v; itself = trimmed false v; elements = trimmed_list v; members = trimmed_map v })) k (trimmed_members root ms)

  pub trimmed_list : Document → Document
  trimmed_list (list ds) = list (trimmed_elements ds)
  trimmed_list d = d

  pub trimmed_elements : Documents → Documents
  trimmed_elements no_documents = no_documents
  trimmed_elements (document d ds) = document (trimmed false d) (trimmed_elements ds)

  pub trimmed_map : Document → Document
  trimmed_map (object ms) = object (trimmed_named ms)
  trimmed_map d = d

  pub trimmed_named : Members → Members
  trimmed_named no_members = no_members
  trimmed_named (member k v ms) = member k (trimmed false v) (trimmed_named ms)

-- an object as root gets `$schema`
abbrev pub with_dialect : Document → Document
with_dialect (object ms) = object (put (codes "$schema") (text dialect) ms)
with_dialect d = d

abbrev pub trim : Document → Document
trim d = with_dialect (trimmed true d)

-- the law of trimming: a schema document validates what the trimmed one validates
abbrev pub KeepsValidity : Document → Type 0
KeepsValidity d = (V W : Document → Document → Bool) → IsValidity d V → IsValidity (trim d) W → (x : Document) → V d x ≡ W (trim d) x
