-- What the reader makes of a keyword's value, and of an object.
use Rattle.std.specs.Prelude.{◌≡◌, ℕ, Bool, true, false, List, ◌∷◌, [], ◌++◌, Option, Some, None, codes, map, option_map, String, string_bytes, string_cmp, is_some, Result, Ok, Err, IfOk, IfSome, if◌then◌else◌}
use Rattle.cs_document.specs.Document.{Document, Documents, Members, under}
use Rattle.std.specs.BTreeMap.{insert_entry}
use Rattle.cs_document.specs.View.{documents_of}
use Rattle.cs_profile.specs.Keywords.{name_of}
use Rattle.cs_profile.specs.Shapes.{has_form, keeping, is_kept, by_form, form_of, stands}
use Rattle.cs_profile.specs.Profile.{Fault, unknown, misshapen, undefined, Visit, first, fault_of, undefined_at}
use Rattle.cs_profile.specs.Trim.{trimmed_members}
use Rattle.cs_profile.specs.Values.{value_visits, value_trims, trimmed_value}
use Rattle.cs_profile.specs.SchemaDocument.{Slot, present, slots_of, unless_no_map, text_document, schema_view, definitions_view, value_at}
use Rattle.cs_profile.specs.declared.keyword.Vocabulary.{Vocabulary}
use Rattle.cs_profile.specs.declared.keyword.Form.{Form}
use Rattle.cs_profile.specs.declared.keyword.Keyword.{Keyword}
use Rattle.cs_profile.specs.declared.schema.Schema.{Schema}
use Rattle.cs_profile.specs.declared.schema.KeywordValue.{KeywordValue}
use Rattle.std.specs.declared.alloc.Global.{Global}
use Rattle.cs_profile.specs.declared.fault.SchemaFault.{SchemaFault}
use Rattle.cs_profile.specs.declared.fault.SchemaFault.TheVariants as fault
use Rattle.cs_schema.specs.declared.parts.Parts.{Parts}

-- what the walk meets inside a value of a form, by its place in the value
abbrev pub inside : Form → Document → List Visit
inside f v = by_form f (value_visits [] v)

-- the first fault of a keyword or a value that the walk meets, by the keywords that are taken
abbrev pub fault_in : Vocabulary → List Visit → Option Fault
fault_in taken vs = first (fault_of taken) vs

-- what trimming leaves of a value of a form
abbrev pub kept_value : Form → Document → Option Document
kept_value f v = if is_kept (keeping f) v then Some (by_form f (value_trims v)) else None

-- a value of a form is read as what trimming leaves of it, and a value without the form as nothing
abbrev pub IsReadAs : Form → Document → Option KeywordValue → Type 0
IsReadAs f d None = has_form f d ≡ false
IsReadAs f d (Some v) = (has_form f d ≡ true) × (value_at f v ≡ kept_value f d)

-- what a function that may run out of memory finds has P; where it finds nothing, Q
abbrev pub IfFound : {T E : Type 0} → Result (Option T) E → (T → Type 0) → Type 0
IfFound r P = IfOk r (λ o. IfSome o P)

abbrev pub IfNothing : {T E : Type 0} → Result (Option T) E → Type 0 → Type 0
IfNothing r Q = IfOk r (λ o. o ≡ None → Q)

-- the elements of an array of texts
abbrev pub texts_view : List (String Global) → Documents
texts_view ts = documents_of (map text_document ts)

-- the keywords of an object with its definitions
abbrev pub slots : Parts → List Slot
slots p = (codes "$defs", unless_no_map (definitions_view p.definitions.entries)) ∷ slots_of p.keywords

-- whether a name is among the definitions
abbrev pub is_defined_in : List (String Global × Schema) → List ℕ → Bool
is_defined_in es n = is_some (under n (map (λ m. (string_bytes m.0, schema_view m.1)) es))

-- the first `$ref` that the walk meets to a name that is not among the definitions
abbrev pub undefined_in : List (String Global × Schema) → List Visit → Option Fault
undefined_in es vs = first (undefined_at (is_defined_in es)) vs

-- a fault of what is at a place, with that place in front of its own
abbrev pub below : List ℕ → Fault → Fault
below place (unknown p n) = unknown (place ++ p) n
below place (misshapen p n) = misshapen (place ++ p) n
below place (undefined p n) = undefined (place ++ p) n

-- the refusal names this fault; memory may run out at any time
abbrev pub Refuses : SchemaFault → Option Fault → Type 0
Refuses fault.OutOfMemory o = Unit {0}
Refuses (fault.Keyword p n) o = o ≡ Some (unknown (string_bytes p) (string_bytes n))
Refuses (fault.Shape p n) o = o ≡ Some (misshapen (string_bytes p) (string_bytes n))
Refuses (fault.Reference p n) o = o ≡ Some (undefined (string_bytes p) (string_bytes n))
Refuses (fault.Loop ns) o = ⊥

-- the second refusal names the fault of the first below a place
abbrev pub IsBelow : List ℕ → SchemaFault → SchemaFault → Type 0
IsBelow place e f = (o : Option Fault) → Refuses e o → Refuses f (option_map (below place) o)

-- what is read has P where there is no fault; else the refusal names the fault
abbrev pub Reads : {T : Type 0} → Result T SchemaFault → Option Fault → (T → Type 0) → Type 0
Reads (Ok t) o P = (o ≡ None) × P t
Reads (Err e) o P = Refuses e o

-- the keywords of an object with its definitions are what trimming leaves of its members; only the root has definitions
pub record AreParts (root : Bool) (ms : Members) (p : Parts) : Type 0 where
  pub found : present (slots p) ≡ trimmed_members root ms
  pub below : root ≡ false → p.definitions.entries ≡ []

-- the keyword that a key is, and what trimming leaves of its value
pub record IsKeyword (root : Bool) (key : List ℕ) (d : Document) (w : Keyword) (v : KeywordValue) : Type 0 where
  pub found : value_at (form_of w) v ≡ trimmed_value root key d
  pub name : name_of w ≡ key
  pub stands : stands root w ≡ true

-- whether a value of a form holds schemas
abbrev pub has_schemas : Form → Bool
has_schemas f = by_form f (record { none = false; itself = true; elements = true; members = true })

-- the entries with a schema under a key
pub record IsPut (key : List ℕ) (s : Schema) (old new : List (String Global × Schema)) : Type 0 where
  pub name : String Global
  pub named : string_bytes name ≡ key
  pub entries : new ≡ insert_entry string_cmp old name s
