-- The notes that are put into a schema's document: descriptions and defaults (JSON Schema Validation 2020-12, sections 9.1 and 9.2; which schema
-- gets which note is an own rule).
use Rattle.std.specs.Prelude.{◌≡◌, ℕ, List, [], ◌∷◌, map, true, false, nat_le, Option, Some, None, option_map, option_and_then, codes, String, string_bytes, if◌then◌else◌}
use Rattle.std.specs.Str.{bytes_eq}
use Rattle.std.specs.declared.alloc.Global.{Global}
use Rattle.cs_document.specs.Document.{Document, null, boolean, integer, text, list, object, Documents, no_documents, document, Members, no_members, member, under, put, depth}
use Rattle.cs_document.specs.View.{doc_view}
use Rattle.cs_profile.specs.Keywords.{keywords}
use Rattle.cs_profile.specs.declared.keyword.Keyword.{Keyword}
use Rattle.cs_profile.specs.declared.keyword.Keyword.TheVariants as keyword
use Rattle.cs_describe.specs.declared.notes.Notes.{Notes, out-Notes}
use Rattle.cs_describe.specs.declared.note.Note.{Note}
use Rattle.cs_describe.specs.declared.note.Note.TheVariants as note

-- the keyword of a note
abbrev pub note_name : Note → List ℕ
note_name note.Description = codes "description"
note_name note.Default = codes "default"

-- how many lists may nest in a default
abbrev pub most_nested : ℕ
most_nested = 8

-- a value that nests no deeper
abbrev pub unless_deep : Document → Option Document
unless_deep v = if nat_le (depth v) most_nested then Some v else None

-- the value of a note for the schema itself
abbrev pub note_of : Note → Notes → Option Document
note_of note.Description n = option_map (λ t. text (string_bytes t)) (out-Notes n).text
note_of note.Default n = option_and_then (λ v. unless_deep (doc_view v)) (out-Notes n).default

-- an object as schema, and the schema `true`, with a note
abbrev pub with_note : Note → Option Document → Members → Members
with_note w None ms = ms
with_note w (Some v) ms = put (note_name w) v ms

abbrev pub truth_with_note : Note → Option Document → Document
truth_with_note w None = boolean true
truth_with_note w (Some v) = object (member (note_name w) v no_members)

-- no note, neither for the schema nor for those in it
pub record HasNoNotes (n : Notes) : Type 0 where
  pub text : (out-Notes n).text ≡ None
  pub default : (out-Notes n).default ≡ None
  pub properties : (out-Notes n).properties.entries ≡ []
  pub all_of : (out-Notes n).all_of.items ≡ []
  pub any_of : (out-Notes n).any_of.items ≡ []
  pub prefix : (out-Notes n).prefix.items ≡ []
  pub rest : (out-Notes n).rest ≡ None
  pub additional : (out-Notes n).additional ≡ None

-- the notes for the schemas of a list, in their order: for the first, and for the others
abbrev pub front_notes : List Notes → Option Notes
front_notes [] = None
front_notes (n ∷ ns) = Some n

abbrev pub further_notes : List Notes → List Notes
further_notes [] = []
further_notes (n ∷ ns) = ns

-- the notes for the schema under a label
abbrev pub labelled_notes : List ℕ → List (String Global × Notes) → Option Notes
labelled_notes k ns = under k (map (λ m. (string_bytes m.0, m.1)) ns)

-- an answer for each keyword in whose schemas notes are put
pub record ByKeyword : Type 0 where
  pub properties : Document
  pub all_of : Document
  pub any_of : Document
  pub prefix : Document
  pub rest : Document
  pub additional : Document
  pub other : Document

abbrev pub by_keyword : Option Keyword → ByKeyword → Document
by_keyword (Some keyword.Properties) answers = answers.properties
by_keyword (Some keyword.AllOf) answers = answers.all_of
by_keyword (Some keyword.AnyOf) answers = answers.any_of
by_keyword (Some keyword.PrefixItems) answers = answers.prefix
by_keyword (Some keyword.Items) answers = answers.rest
by_keyword (Some keyword.AdditionalProperties) answers = answers.additional
by_keyword _ answers = answers.other

-- the value of a keyword, by what it is as the schemas of an object, as those of a list and as a schema, each with notes
abbrev pub value_by : (List (String Global × Notes) → Document) → (List Notes → Document) → (Option Notes → Document) → Option Keyword → Notes → Document → Document
value_by as_map as_list as_schema o n v = by_keyword o (record {
  properties = as_map (out-Notes n).properties.entries;
  all_of = as_list (out-Notes n).all_of.items;
  any_of = as_list (out-Notes n).any_of.items;
  prefix = as_list (out-Notes n).prefix.items;
  rest = as_schema (option_map (λ b. b.value) (out-Notes n).rest);
  additional = as_schema (option_map (λ b. b.value) (out-Notes n).additional);
  other = v;
})

module _ (w : Note) where
  abbrev mutual
    -- a schema with its notes; `false` stays, and so does what is no schema
    pub described : Option Notes → Document → Document
    described None d = d
    described (Some n) (object ms) = object (with_note w (note_of w n) (described_members n ms))
    described (Some n) (boolean true) = truth_with_note w (note_of w n)
    described (Some n) (boolean false) = boolean false
    described (Some n) null = null
    described (Some n) (integer z) = integer z
    described (Some n) (text s) = text s
    described (Some n) (list ds) = list ds

    pub described_members : Notes → Members → Members
    described_members n no_members = no_members
    described_members n (member k v ms) =
        member k (value_by (λ ns. described_map ns v) (λ ns. described_list ns v) (λ o. described o v) (under k keywords) n v)
        (described_members n ms)

    pub described_list : List Notes → Document → Document
    described_list ns (list ds) = list (described_elements ns ds)
    described_list ns d = d

    pub described_elements : List Notes → Documents → Documents
    described_elements ns no_documents = no_documents
    described_elements ns (document d ds) = document (described (front_notes ns) d) (described_elements (further_notes ns) ds)

    pub described_map : List (String Global × Notes) → Document → Document
    described_map ns (object ms) = object (described_named ns ms)
    described_map ns d = d

    pub described_named : List (String Global × Notes) → Members → Members
    described_named ns no_members = no_members
    described_named ns (member k v ms) = member k (described (labelled_notes k ns) v) (described_named ns ms)

  -- the value of a keyword; for private contracts alone
  abbrev pub described_value : Option Keyword → Notes → Document → Document
  described_value o n v = value_by (λ ns. described_map ns v) (λ ns. described_list ns v) (λ p. described p v) o n v

  -- the members of the root, with notes for the definitions by their names
  abbrev pub described_root : List (String Global × Notes) → Members → Members
  described_root ns no_members = no_members
  described_root ns (member k v ms) = member k (if bytes_eq k (codes "$defs") then described_map ns v else v) (described_root ns ms)

  -- a schema document with notes for its definitions by their names
  abbrev pub described_document : List (String Global × Notes) → Document → Document
  described_document ns (object ms) = object (described_root ns ms)
  described_document ns d = d
