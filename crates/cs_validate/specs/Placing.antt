-- Rules numbered one after another, as long as some schemas wait for their numbers.
use Rattle.std.specs.Prelude.{◌≡◌, ℕ, ◌<◌, List, [], ◌∷◌, ◌++◌, Option, Some, None, option_map, option_and_then, option_to_list, length, map, slice_get, get_or, String, Vec}
use Rattle.std.specs.List.{AllByRecursion, flat_map}
use Rattle.std.specs.Borrow.{Bor}
use Rattle.std.specs.declared.alloc.Global.{Global}
use Rattle.cs_document.specs.Document.{Document, null, boolean, integer, text, list, object, Documents, no_documents, document, Members, no_members, member, under}
use Rattle.cs_profile.specs.Keywords.{keywords, elements_of, entries_of, defined}
use Rattle.cs_profile.specs.Constraint.{constraint_of}
use Rattle.cs_profile.specs.Loops.{direct_names}
use Rattle.cs_profile.specs.Numbered.{numbered}
use Rattle.cs_profile.specs.SchemaDocument.{schema_view, slots_of, present}
use Rattle.cs_profile.specs.declared.keyword.Keyword.{Keyword}
use Rattle.cs_profile.specs.declared.keyword.Keyword.TheVariants as keyword
use Rattle.cs_profile.specs.declared.schema.Keywords.{Keywords}
use Rattle.cs_profile.specs.declared.schema.Schema.{Schema}
use Rattle.cs_rules.specs.declared.numberer.Numberer.{Numberer}
use Rattle.cs_validate.specs.Numbering.{map_constraint, PartsBelow, said, schema_at}
use Rattle.cs_validate.specs.declared.rules.Rule.{Rule as Coded}
use Rattle.cs_validate.specs.Steps.{asked_of}

-- the schemas that wait
abbrev pub waiting : List (Bor Schema) → List Document
waiting bs = map (λ b. schema_view b.now) bs

-- these wait behind the rest
abbrev pub Waits : Vec (Bor Schema) Global → Vec (Bor Schema) Global → List Document → Type 0
Waits old new ss = waiting new.items ≡ waiting old.items ++ ss

-- these rules have numbers, each after those that it asks of the same document; those of documents inside are places
-- of what waits
pub record AreNumbered (R : Document) (placed : List Document) (pending : List Document) (rules : List Coded) : Type 0 where
  pub sizes : length rules ≡ length placed
  pub asks : (r : ℕ) (x : Coded) → slice_get rules r ≡ Some x → said (constraint_of R (schema_at placed r)) ≡ said (map_constraint (schema_at placed) (schema_at pending) (asked_of x))
  pub parts : (r : ℕ) (x : Coded) → slice_get rules r ≡ Some x → PartsBelow r (length pending) (asked_of x)

-- the rules so far, and the schemas that wait
abbrev pub State : Type 0
State = Numberer Schema Coded

abbrev pub AreNumberedBy : Document → List Document → State → Type 0
AreNumberedBy R placed s = AreNumbered R placed (waiting s.pending.items) s.rules.items

-- these are the numbers of these schemas
abbrev pub AreAt : List Document → List ℕ → List Document → Type 0
AreAt placed numbers ss = (map (schema_at placed) numbers ≡ ss) × AllByRecursion (λ k. k < length placed) numbers

-- what a keyword that asks schemas of the same document contributes: the schema that its value is, or the elements
abbrev pub if_direct : {A : Type 0} → Option Keyword → List A → List A → List A
if_direct (Some keyword.Not) itself elements = itself
if_direct (Some keyword.AllOf) itself elements = elements
if_direct (Some keyword.AnyOf) itself elements = elements
if_direct _ itself elements = []

-- the schemas that a keyword asks of documents inside
abbrev pub inside_of : Option Keyword → Document → List Document
inside_of (Some keyword.AdditionalProperties) v = v ∷ []
inside_of (Some keyword.Items) v = v ∷ []
inside_of (Some keyword.PrefixItems) v = elements_of v
inside_of (Some keyword.Properties) v = map (λ e. e.1) (entries_of v)
inside_of _ v = []

-- what gets a number with a schema: what it asks of the same document, and itself
abbrev mutual
  pub placed_by : Document → List Document
  placed_by null = null ∷ []
  placed_by (boolean b) = boolean b ∷ []
  placed_by (integer z) = integer z ∷ []
  placed_by (text s) = text s ∷ []
  placed_by (list ds) = list ds ∷ []
  placed_by (object ms) = placed_by_members ms ++ object ms ∷ []

  pub placed_by_members : Members → List Document
  placed_by_members no_members = []
  placed_by_members (member k v ms) = if_direct (under k keywords) (placed_by v) (placed_by_list v) ++ placed_by_members ms

  pub placed_by_list : Document → List Document
  placed_by_list (list ds) = placed_by_each ds
  placed_by_list _ = []

  pub placed_by_each : Documents → List Document
  placed_by_each no_documents = []
  placed_by_each (document d ds) = placed_by d ++ placed_by_each ds

abbrev pub inside_members : Members → List Document
inside_members no_members = []
inside_members (member k v ms) = inside_of (under k keywords) v ++ inside_members ms

-- the schemas of an object, of a map's values and of a keyword that may be there
abbrev pub object_of : Keywords → Document
object_of k = object (present (slots_of k))

abbrev pub values_view : List (String Global × Schema) → List Document
values_view es = map (λ e. schema_view e.1) es

abbrev pub optional_view : Option Schema → List Document
optional_view o = option_to_list (option_map schema_view o)

-- what the keywords of an object ask of documents inside
abbrev pub asked_inside : Keywords → List Document
asked_inside k = inside_members (present (slots_of k))

-- what waits then: what these ask of documents inside
abbrev mutual
  pub left_by : Document → List Document
  left_by (object ms) = left_by_members ms ++ inside_members ms
  left_by _ = []

  pub left_by_members : Members → List Document
  left_by_members no_members = []
  left_by_members (member k v ms) = if_direct (under k keywords) (left_by v) (left_by_list v) ++ left_by_members ms

  pub left_by_list : Document → List Document
  left_by_list (list ds) = left_by_each ds
  left_by_list _ = []

  pub left_by_each : Documents → List Document
  left_by_each no_documents = []
  left_by_each (document d ds) = left_by d ++ left_by_each ds

-- the names of the definitions, and at the place of each its number, if it has one
abbrev pub Numbers : Type 0
Numbers = List (List ℕ) × List (Option ℕ)

abbrev pub place_in : Numbers → List ℕ → Option ℕ
place_in numbers n = under n (numbered 0 numbers.0)

abbrev pub number_in : Numbers → List ℕ → Option ℕ
number_in numbers n = option_and_then (λ i. get_or numbers.1 i None) (place_in numbers n)

-- the number of a name, if it has one, is that of its definition; a name without a number isn't defined
abbrev pub IsKnown : Document → Numbers → List Document → List ℕ → Type 0
IsKnown R numbers placed n = (option_map (schema_at placed) (number_in numbers n) ≡ defined R n) × AllByRecursion (λ k. k < length placed) (option_to_list (number_in numbers n))

-- with schemas numbered, their rules are behind those before, and what they ask of documents inside waits behind the rest
abbrev pub PlacesAll : Numbers → State → State → List Document → List ℕ → Type 0
PlacesAll numbers old new ss ks =
    Waits old.pending new.pending (flat_map left_by ss)
    × ((R : Document) (placed : List Document) → AreNumberedBy R placed old → AllByRecursion (IsKnown R numbers placed) (flat_map direct_names ss)
    → AreNumberedBy R (placed ++ flat_map placed_by ss) new × AreAt (placed ++ flat_map placed_by ss) ks ss)

-- with a schema numbered k, its rules are behind those before, and what it asks of documents inside waits behind the rest
abbrev pub Places : Numbers → State → State → Document → ℕ → Type 0
Places numbers old new s k =
    Waits old.pending new.pending (left_by s)
    × ((R : Document) (placed : List Document) → AreNumberedBy R placed old → AllByRecursion (IsKnown R numbers placed) (direct_names s)
    → AreNumberedBy R (placed ++ placed_by s) new × AreAt (placed ++ placed_by s) (k ∷ []) (s ∷ []))
