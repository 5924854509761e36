-- The document that a schema with its definitions stands for.
use Rattle.std.specs.Prelude.{◌≡◌, ℕ, Bool, List, [], ◌∷◌, ◌++◌, Option, Some, None, codes, map, option_map, String, string_bytes, if◌then◌else◌}
use Rattle.std.specs.Str.{bytes_eq}
use Rattle.std.specs.declared.alloc.Global.{Global}
use Rattle.cs_document.specs.Document.{Document, boolean, integer, text, list, object, Members, no_members, Entry, under}
use Rattle.cs_document.specs.View.{doc_view, list_view, documents_of, members_of}
use Rattle.cs_profile.specs.Keywords.{name_of, slot_keywords, reference_start}
use Rattle.cs_profile.specs.Shapes.{form_of}
use Rattle.cs_profile.specs.Trim.{with_member, with_dialect}
use Rattle.cs_profile.specs.Root.{with_definitions}
use Rattle.cs_profile.specs.Profile.{walk_fault, name_fault, IsSchema}
use Rattle.cs_profile.specs.declared.schema.Schema.{Schema, fold-Schema}
use Rattle.cs_profile.specs.declared.schema.Schema.TheOpen.{Schema-F, Keywords-F}
use Rattle.cs_profile.specs.declared.schema.Keywords.{Keywords, fold-Keywords}
use Rattle.cs_profile.specs.declared.schema.KeywordValue.{KeywordValue}
use Rattle.cs_profile.specs.declared.schema.KeywordValue.TheVariants as value
use Rattle.cs_profile.specs.declared.keyword.Keyword.{Keyword}
use Rattle.cs_profile.specs.declared.keyword.Keyword.TheVariants as keyword
use Rattle.cs_profile.specs.declared.keyword.Vocabulary.TheVariants as vocabulary
use Rattle.cs_profile.specs.declared.keyword.Form.{Form}
use Rattle.cs_profile.specs.declared.keyword.Form.TheVariants as form
use Rattle.cs_profile.specs.declared.schema.JsonKind.{JsonKind}
use Rattle.cs_profile.specs.declared.schema.JsonKind.TheVariants as kind

abbrev pub kind_name : JsonKind → List ℕ
kind_name kind.Null = codes "null"
kind_name kind.Boolean = codes "boolean"
kind_name kind.Object = codes "object"
kind_name kind.Array = codes "array"
kind_name kind.Number = codes "number"
kind_name kind.String = codes "string"
kind_name kind.Integer = codes "integer"

-- a keyword with its value, where it is there
abbrev pub Slot : Type 0
Slot = Entry (Option Document)

-- the keywords that stand
abbrev pub present : List Slot → Members
present [] = no_members
present (s ∷ ss) = with_member s.1 s.0 (present ss)

-- a keyword's value is set
abbrev pub set_slot : List ℕ → Option Document → List Slot → List Slot
set_slot k o [] = []
set_slot k o (s ∷ ss) = if bytes_eq k s.0 then (s.0, o) ∷ ss else s ∷ set_slot k o ss

-- an empty list and an empty map are left out
abbrev pub unless_no_list : List Document → Option Document
unless_no_list [] = None
unless_no_list (d ∷ ds) = Some (list (documents_of (d ∷ ds)))

abbrev pub unless_no_map : List (String Global × Document) → Option Document
unless_no_map [] = None
unless_no_map (m ∷ ms) = Some (object (members_of (m ∷ ms)))

abbrev pub reference_document : String Global → Document
reference_document s = text (reference_start ++ string_bytes s)

abbrev pub text_document : String Global → Document
text_document s = text (string_bytes s)

-- the document that a keyword's value stands for, if the keyword is there
abbrev pub value_of : Keywords-F Document (List Slot) → Keyword → Option Document
value_of k keyword.Ref = option_map reference_document k.reference
value_of k keyword.AdditionalProperties = k.additional
value_of k keyword.AllOf = unless_no_list k.all_of.items
value_of k keyword.AnyOf = unless_no_list k.any_of.items
value_of k keyword.Const = option_map doc_view k.equal
value_of k keyword.Enum = option_map (λ v. list (list_view v.items)) k.one_of
value_of k keyword.ExclusiveMaximum = option_map integer k.below
value_of k keyword.ExclusiveMinimum = option_map integer k.above
value_of k keyword.Items = k.rest
value_of k keyword.MaxItems = option_map integer k.max_items
value_of k keyword.MaxLength = option_map integer k.max_length
value_of k keyword.MaxProperties = option_map integer k.max_properties
value_of k keyword.Maximum = option_map integer k.maximum
value_of k keyword.MinItems = option_map integer k.min_items
value_of k keyword.MinLength = option_map integer k.min_length
value_of k keyword.MinProperties = option_map integer k.min_properties
value_of k keyword.Minimum = option_map integer k.minimum
value_of k keyword.Not = k.negated
value_of k keyword.PrefixItems = unless_no_list k.prefix.items
value_of k keyword.Properties = unless_no_map k.properties.entries
value_of k keyword.Required = unless_no_list (map text_document k.required.items)
value_of k keyword.Type = option_map (λ j. text (kind_name j)) k.kind
-- the dialect and the definitions are the root's, and texts are left out
value_of k _ = None

-- the keywords of an object, in the byte order of their names
abbrev pub keyword_slots : Keywords-F Document (List Slot) → List Slot
keyword_slots k = map (λ w. (name_of w, value_of k w)) slot_keywords

abbrev pub schema_step : Schema-F Document (List Slot) → Document
schema_step (Schema-F.Always b) = boolean b
schema_step (Schema-F.Object k) = object (present k.value)

-- the document that a schema below the root stands for
abbrev pub schema_view : Schema → Document
schema_view = fold-Schema Document (List Slot) schema_step keyword_slots

abbrev pub slots_of : Keywords → List Slot
slots_of = fold-Keywords Document (List Slot) schema_step keyword_slots

abbrev pub schemas_view : List Schema → List Document
schemas_view = map schema_view

abbrev pub definitions_view : List (String Global × Schema) → List (String Global × Document)
definitions_view = map (λ m. (m.0, schema_view m.1))

-- the document that the value of a keyword of a form stands for, if one stands
abbrev pub value_at : Form → KeywordValue → Option Document
value_at form.Reference (value.Reference s) = Some (reference_document s)
value_at form.Kind (value.Kind k) = Some (text (kind_name k))
value_at form.Anything (value.Anything d) = Some (doc_view d)
value_at form.Array (value.Array v) = Some (list (list_view v.items))
value_at form.Integer (value.Integer z) = Some (integer z)
value_at form.Count (value.Integer z) = Some (integer z)
value_at form.Texts (value.Texts v) = unless_no_list (map text_document v.items)
value_at form.Schema (value.Schema s) = Some (schema_view s)
value_at form.Schemas (value.Schemas v) = unless_no_list (schemas_view v.items)
value_at form.NamedSchemas (value.NamedSchemas m) = unless_no_map (definitions_view m.entries)
-- a text says nothing, and what does not have the form
value_at _ _ = None

-- a keyword gets a value of its form
abbrev pub with_value : Keyword → KeywordValue → List Slot → List Slot
with_value k v ss = set_slot (name_of k) (value_at (form_of k) v) ss

-- a root with its definitions
pub record SchemaValue : Type 0 where
  pub root : Schema
  pub definitions : List (String Global × Schema)

abbrev pub schema_value : Schema → List (String Global × Schema) → SchemaValue
schema_value root ds = record { root = root; definitions = ds }

-- the document that a root with its definitions stands for
abbrev pub document_of : SchemaValue → Document
document_of s = with_dialect (with_definitions (unless_no_map (definitions_view s.definitions)) (schema_view s.root))

-- a schema document: what it stands for is a schema with all keywords, and a truth value has no definitions
pub record IsWhole (v : SchemaValue) : Type 0 where
  pub profile : IsSchema vocabulary.Wide (document_of v)
  pub bare : (b : Bool) → schema_view v.root ≡ boolean b → v.definitions ≡ []

-- a schema document, but for loops
pub record IsWellFormed (v : SchemaValue) : Type 0 where
  pub shaped : walk_fault vocabulary.Wide (document_of v) ≡ None
  pub named : name_fault (document_of v) ≡ None
  pub bare : (b : Bool) → schema_view v.root ≡ boolean b → v.definitions ≡ []

-- the definition of a name, as its document
abbrev pub definition_of : SchemaValue → List ℕ → Option Document
definition_of v n = under n (map (λ m. (string_bytes m.0, schema_view m.1)) v.definitions)
