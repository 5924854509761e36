-- The form of each keyword's value, where the keyword may be, and what trimming does with it (the profile: own rule).
use Rattle.std.specs.Prelude.{ℕ, pos, List, [], ◌∷◌, ◌++◌, Bool, true, false, not, ◌&&◌, ◌||◌, nat_eq, leb, Option, Some, None, is_some, option_and_then, codes, if◌then◌else◌}
use Rattle.std.specs.Str.{bytes_eq}
use Rattle.std.specs.List.{list_any, list_all}
use Rattle.cs_document.specs.Document.{Document, integer, text, list, object, Documents, no_documents, document, no_members, under}
use Rattle.cs_profile.specs.Keywords.{keywords, is_in, kinds, reference_start, text_after}
use Rattle.cs_profile.specs.declared.keyword.Keyword.{Keyword}
use Rattle.cs_profile.specs.declared.keyword.Keyword.TheVariants as keyword
use Rattle.cs_profile.specs.declared.keyword.Vocabulary.{Vocabulary}
use Rattle.cs_profile.specs.declared.keyword.Form.{Form}
use Rattle.cs_profile.specs.declared.keyword.Form.TheVariants as form

-- the form of a keyword's value
abbrev pub form_of : Keyword → Form
form_of keyword.Schema = form.Dialect
form_of keyword.Defs = form.NamedSchemas
form_of keyword.Ref = form.Reference
form_of keyword.Type = form.Kind
form_of keyword.Const = form.Anything
form_of keyword.Enum = form.Array
form_of keyword.Minimum = form.Integer
form_of keyword.Maximum = form.Integer
form_of keyword.ExclusiveMinimum = form.Integer
form_of keyword.ExclusiveMaximum = form.Integer
form_of keyword.MaxItems = form.Count
form_of keyword.MaxLength = form.Count
form_of keyword.MaxProperties = form.Count
form_of keyword.MinItems = form.Count
form_of keyword.MinLength = form.Count
form_of keyword.MinProperties = form.Count
form_of keyword.Required = form.Texts
form_of keyword.Properties = form.NamedSchemas
form_of keyword.AdditionalProperties = form.Schema
form_of keyword.PrefixItems = form.Schemas
form_of keyword.Items = form.Schema
form_of keyword.AllOf = form.Schemas
form_of keyword.AnyOf = form.Schemas
form_of keyword.Not = form.Schema
form_of keyword.Title = form.Text
form_of keyword.Description = form.Text
form_of keyword.Comment = form.Text

-- whether the profile has a keyword in the root, or below it
abbrev pub stands : Bool → Keyword → Bool
stands root keyword.Schema = root
stands root keyword.Defs = root
stands root _ = true

abbrev pub form_in : Bool → Keyword → Option Form
form_in root w = if stands root w then Some (form_of w) else None

-- the form of what is under a key, in the root or below it
abbrev pub form_at : Bool → List ℕ → Option Form
form_at root k = option_and_then (form_in root) (under k keywords)

-- the same where only the keywords of a vocabulary are taken
abbrev pub taken_in : Vocabulary → Bool → Keyword → Option Form
taken_in taken root w = if is_in taken w then form_in root w else None

abbrev pub taken_at : Vocabulary → Bool → List ℕ → Option Form
taken_at taken root k = option_and_then (taken_in taken root) (under k keywords)

-- what trimming does with a keyword
pub data Keeping : Type 0 where
  kept left_out left_out_if_empty : Keeping

-- by the form of its value
abbrev pub keeping : Form → Keeping
keeping form.Dialect = left_out
keeping form.Reference = kept
keeping form.Kind = kept
keeping form.Anything = kept
keeping form.Array = kept
keeping form.Integer = kept
keeping form.Count = kept
keeping form.Texts = left_out_if_empty
keeping form.Text = left_out
keeping form.Schema = kept
keeping form.Schemas = kept
keeping form.NamedSchemas = left_out_if_empty

-- the text of `$schema` (JSON Schema Core 2020-12, section 8.1.1)
abbrev pub dialect : List ℕ
dialect = codes "https://json-schema.org/draft/2020-12/schema"

-- letters, digits, `_`, `$`, `.`, `-`
abbrev pub is_name_code : ℕ → Bool
is_name_code c =
    (leb 65 c && leb c 90) || (leb 97 c && leb c 122) || (leb 48 c && leb c 57) || nat_eq c 95 || nat_eq c 36 || nat_eq c 46 || nat_eq c 45

-- a name of one or more of these
abbrev pub is_name : List ℕ → Bool
is_name [] = false
is_name (c ∷ cs) = list_all is_name_code (c ∷ cs)

abbrev pub names_definition : Option (List ℕ) → Bool
names_definition None = false
names_definition (Some n) = is_name n

-- each is a text that is not among those before it
abbrev pub are_distinct_texts : List (List ℕ) → Documents → Bool
are_distinct_texts seen no_documents = true
are_distinct_texts seen (document (text s) ds) = not (list_any (bytes_eq s) seen) && are_distinct_texts (seen ++ s ∷ []) ds
are_distinct_texts seen (document _ ds) = false

-- whether a value has the shape; a value that is to be a schema is looked at where it is
abbrev pub has_form : Form → Document → Bool
has_form form.Dialect (text s) = bytes_eq s dialect
has_form form.Reference (text s) = names_definition (text_after reference_start s)
has_form form.Kind (text s) = is_some (under s kinds)
has_form form.Anything d = true
has_form form.Array (list ds) = true
has_form form.Integer (integer z) = true
has_form form.Count (integer (pos n)) = true
has_form form.Texts (list ds) = are_distinct_texts [] ds
has_form form.Text (text s) = true
has_form form.Schema d = true
has_form form.Schemas (list (document d ds)) = true
has_form form.NamedSchemas (object ms) = true
has_form _ _ = false

abbrev pub is_empty : Document → Bool
is_empty (list no_documents) = true
is_empty (object no_members) = true
is_empty _ = false

abbrev pub is_kept : Keeping → Document → Bool
is_kept kept d = true
is_kept left_out d = false
is_kept left_out_if_empty d = not (is_empty d)

-- an answer for each way that a keyword's value may hold schemas: it holds none, it is one itself, its elements
-- are, or its members are
pub record BySchemas (A : Type 0) : Type 0 where
  pub none : A
  pub itself : A
  pub elements : A
  pub members : A

abbrev pub by_form : {A : Type 0} → Form → BySchemas A → A
by_form form.Dialect answers = answers.none
by_form form.Reference answers = answers.none
by_form form.Kind answers = answers.none
by_form form.Anything answers = answers.none
by_form form.Array answers = answers.none
by_form form.Integer answers = answers.none
by_form form.Count answers = answers.none
by_form form.Texts answers = answers.none
by_form form.Text answers = answers.none
by_form form.Schema answers = answers.itself
by_form form.Schemas answers = answers.elements
by_form form.NamedSchemas answers = answers.members
