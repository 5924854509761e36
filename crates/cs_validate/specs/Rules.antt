-- The rules by which documents are judged: a schema document, its definitions, and every schema inside them
-- (JSON Schema Core 2020-12, section 4.3.5: subschemas).
use Rattle.std.specs.Prelude.{◌<◌, ◌*◌, List, [], ◌∷◌, ◌++◌, Bool, true, false, Option, Some, None, length}
use Rattle.std.specs.List.Sorted.{IsPermutation}
use Rattle.cs_document.specs.Document.{Document, null, boolean, integer, text, list, object, Documents, no_documents, document, Members, no_members, member}
use Rattle.cs_flat.specs.Nodes.{nodes}
use Rattle.cs_table.specs.Limit.{most_pairs}
use Rattle.cs_profile.specs.Shapes.{form_at, BySchemas, by_form}
use Rattle.cs_profile.specs.declared.keyword.Form.{Form}

-- what is in a keyword's value, by the schemas that it holds
abbrev pub in_value : {A : Type 0} → Option Form → BySchemas (List A) → List A
in_value None answers = []
in_value (Some f) answers = by_form f answers

-- a schema and those inside it, at any depth, at the root or below it
abbrev mutual
  pub subschemas : Bool → Document → List Document
  subschemas root null = null ∷ []
  subschemas root (boolean b) = boolean b ∷ []
  subschemas root (integer z) = integer z ∷ []
  subschemas root (text s) = text s ∷ []
  subschemas root (list ds) = list ds ∷ []
  subschemas root (object ms) = object ms ∷ member_schemas root ms

  pub member_schemas : Bool → Members → List Document
  member_schemas root no_members = []
  member_schemas root (member k v ms) =
      in_value (form_at root k) (record { none = []; itself = subschemas false v; elements = list_schemas v; members = map_schemas v }) ++ member_schemas root ms

  pub list_schemas : Document → List Document
  list_schemas (list ds) = element_schemas ds
  list_schemas _ = []

  pub element_schemas : Documents → List Document
  element_schemas no_documents = []
  element_schemas (document d ds) = subschemas false d ++ element_schemas ds

  pub map_schemas : Document → List Document
  map_schemas (object ms) = named_schemas ms
  map_schemas _ = []

  pub named_schemas : Members → List Document
  named_schemas no_members = []
  named_schemas (member k v ms) = subschemas false v ++ named_schemas ms

-- the root, its definitions, and every schema inside them
abbrev pub rules_of : Document → List Document
rules_of R = subschemas true R

-- the rules of the schema document R, each once, in any order
abbrev pub AreRules : Document → List Document → Type 0
AreRules R rules = IsPermutation (rules_of R) rules

-- the values of the document d and these rules make more pairs than a table may have
abbrev pub HasManyPairs : Document → Document → Type 0
HasManyPairs R d = most_pairs < length (nodes d) * length (rules_of R)
