-- The keywords of a schema (JSON Schema Core 2020-12, sections 8 and 10; Validation 2020-12, sections 6 and 9).
use Rattle.std.specs.Prelude.{ℕ, List, [], ◌∷◌, map, Bool, true, false, if◌then◌else◌, ◌==◌, Option, Some, None, codes}
use Rattle.std.specs.Str.{bytes_eq}
use Rattle.std.specs.List.{flat_map}
use Rattle.cs_document.specs.Document.{Document, list, object, Entry, elements, entries, under}
use Rattle.cs_profile.specs.declared.keyword.Keyword.{Keyword}
use Rattle.cs_profile.specs.declared.keyword.Keyword.TheVariants as keyword
use Rattle.cs_profile.specs.declared.keyword.Vocabulary.{Vocabulary}
use Rattle.cs_profile.specs.declared.keyword.Vocabulary.TheVariants as vocabulary

-- their names
abbrev pub name_of : Keyword → List ℕ
name_of keyword.Comment = codes "$comment"
name_of keyword.Defs = codes "$defs"
name_of keyword.Ref = codes "$ref"
name_of keyword.Schema = codes "$schema"
name_of keyword.AdditionalProperties = codes "additionalProperties"
name_of keyword.AllOf = codes "allOf"
name_of keyword.AnyOf = codes "anyOf"
name_of keyword.Const = codes "const"
name_of keyword.Description = codes "description"
name_of keyword.Enum = codes "enum"
name_of keyword.ExclusiveMaximum = codes "exclusiveMaximum"
name_of keyword.ExclusiveMinimum = codes "exclusiveMinimum"
name_of keyword.Items = codes "items"
name_of keyword.MaxItems = codes "maxItems"
name_of keyword.MaxLength = codes "maxLength"
name_of keyword.MaxProperties = codes "maxProperties"
name_of keyword.Maximum = codes "maximum"
name_of keyword.MinItems = codes "minItems"
name_of keyword.MinLength = codes "minLength"
name_of keyword.MinProperties = codes "minProperties"
name_of keyword.Minimum = codes "minimum"
name_of keyword.Not = codes "not"
name_of keyword.PrefixItems = codes "prefixItems"
name_of keyword.Properties = codes "properties"
name_of keyword.Required = codes "required"
name_of keyword.Title = codes "title"
name_of keyword.Type = codes "type"

-- all of them, in the byte order of their names
abbrev pub all_keywords : List Keyword
all_keywords =
    keyword.Comment ∷ keyword.Defs ∷ keyword.Ref ∷ keyword.Schema ∷ keyword.AdditionalProperties ∷ keyword.AllOf ∷ keyword.AnyOf ∷ keyword.Const ∷ keyword.Description
    ∷ keyword.Enum ∷ keyword.ExclusiveMaximum ∷ keyword.ExclusiveMinimum ∷ keyword.Items ∷ keyword.MaxItems ∷ keyword.MaxLength ∷ keyword.MaxProperties
    ∷ keyword.Maximum ∷ keyword.MinItems ∷ keyword.MinLength ∷ keyword.MinProperties ∷ keyword.Minimum ∷ keyword.Not ∷ keyword.PrefixItems ∷ keyword.Properties
    ∷ keyword.Required ∷ keyword.Title ∷ keyword.Type ∷ []

-- those that an object below the root keeps when it is trimmed
abbrev pub slot_keywords : List Keyword
slot_keywords =
    keyword.Ref ∷ keyword.AdditionalProperties ∷ keyword.AllOf ∷ keyword.AnyOf ∷ keyword.Const ∷ keyword.Enum ∷ keyword.ExclusiveMaximum ∷ keyword.ExclusiveMinimum
    ∷ keyword.Items ∷ keyword.MaxItems ∷ keyword.MaxLength ∷ keyword.MaxProperties ∷ keyword.Maximum ∷ keyword.MinItems ∷ keyword.MinLength ∷ keyword.MinProperties
    ∷ keyword.Minimum ∷ keyword.Not ∷ keyword.PrefixItems ∷ keyword.Properties ∷ keyword.Required ∷ keyword.Type ∷ []

-- the keywords by their names
abbrev pub keywords : List (Entry Keyword)
keywords = map (λ w. (name_of w, w)) all_keywords

abbrev pub is_wide : Vocabulary → Bool
is_wide vocabulary.Default = false
is_wide vocabulary.Wide = true

-- whether a keyword is one of those that are taken (Core, section 8.1.2): the limits of how long texts, lists and maps are, but for
-- `minItems`, are in the wide vocabulary alone (own rule)
abbrev pub is_in : Vocabulary → Keyword → Bool
is_in taken keyword.MaxItems = is_wide taken
is_in taken keyword.MaxLength = is_wide taken
is_in taken keyword.MaxProperties = is_wide taken
is_in taken keyword.MinLength = is_wide taken
is_in taken keyword.MinProperties = is_wide taken
is_in taken keyword.Comment = true
is_in taken keyword.Defs = true
is_in taken keyword.Ref = true
is_in taken keyword.Schema = true
is_in taken keyword.AdditionalProperties = true
is_in taken keyword.AllOf = true
is_in taken keyword.AnyOf = true
is_in taken keyword.Const = true
is_in taken keyword.Description = true
is_in taken keyword.Enum = true
is_in taken keyword.ExclusiveMaximum = true
is_in taken keyword.ExclusiveMinimum = true
is_in taken keyword.Items = true
is_in taken keyword.Maximum = true
is_in taken keyword.MinItems = true
is_in taken keyword.Minimum = true
is_in taken keyword.Not = true
is_in taken keyword.PrefixItems = true
is_in taken keyword.Properties = true
is_in taken keyword.Required = true
is_in taken keyword.Title = true
is_in taken keyword.Type = true

-- the kinds that `type` names (Validation, section 6.1.1)
pub data Kind : Type 0 where
  Null Boolean Object Array Number String Integer : Kind

abbrev pub kinds : List (Entry Kind)
kinds =
    (codes "null", Null) ∷ (codes "boolean", Boolean) ∷ (codes "object", Object) ∷ (codes "array", Array)
    ∷ (codes "number", Number) ∷ (codes "string", String) ∷ (codes "integer", Integer) ∷ []

-- what the text of a `$ref` begins with (Core, section 8.2.3.1)
abbrev pub reference_start : List ℕ
reference_start = codes "#/$defs/"

-- what follows a text's beginning
abbrev pub text_after : List ℕ → List ℕ → Option (List ℕ)
text_after [] t = Some t
text_after (a ∷ p) [] = None
text_after (a ∷ p) (b ∷ t) = if a == b then text_after p t else None

-- the parts of a keyword's value
abbrev pub elements_of : Document → List Document
elements_of (list ds) = elements ds
elements_of _ = []

abbrev pub entries_of : Document → List (Entry Document)
entries_of (object ms) = entries ms
entries_of _ = []

-- the entries of what is under a keyword
abbrev pub listed_under : List ℕ → List (Entry Document) → List (Entry Document)
listed_under k es = flat_map (λ e. if bytes_eq k e.0 then entries_of e.1 else []) es

-- the schema of a name in the root's `$defs` (Core, section 8.2.4)
abbrev pub defined : Document → List ℕ → Option Document
defined R n = under n (listed_under (codes "$defs") (entries_of R))
