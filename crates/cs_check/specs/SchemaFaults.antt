-- What a list of the faults of a schema's text tells (own rules).
use Rattle.std.specs.Prelude.{◌≡◌, ℕ, List, [], ◌∷◌, Bool, true, false, ◌&&◌, nat_eq, String, string_bytes, string_eq}
use Rattle.std.specs.List.{AllByRecursion, IsDistinct}
use Rattle.std.specs.Str.{bytes_eq}
use Rattle.std.specs.declared.alloc.Global.{Global}
use lib.Pointwise.{pointwise}
use Rattle.cs_document.specs.Document.{Document}
use Rattle.cs_profile.specs.Refusal.{IsRefusal}
use Rattle.cs_profile.specs.declared.keyword.Vocabulary.{Vocabulary}
use Rattle.cs_profile.specs.declared.fault.SchemaFault.{SchemaFault}
use Rattle.cs_profile.specs.declared.fault.SchemaFault.TheVariants as fault
use Rattle.cs_tool.specs.CallRefusals.{ValidateRefusal}
use Rattle.cs_tool.specs.Conversions.{of_schema}
use Rattle.cs_tool.specs.Refusals.{number_of}
use Rattle.cs_tool.specs.declared.fault.Fault.{Fault}
use Rattle.cs_tool.specs.declared.fault.Fault.TheVariants.{SchemaNotJson, NotInteger, Keyword, Shape, Reference, Loop, OutOfMemory}

-- the fault is why `validate_by` refuses the schema's text by these keywords, whatever the document is, and not for want of memory
pub record IsSchemaRefusal (taken : Vocabulary) (text : List ℕ) (f : Fault) : Type 0 where
  pub refused : (document : List ℕ) → ValidateRefusal taken text document f
  pub other : ¬ (f ≡ OutOfMemory)

-- the first of the faults is that
abbrev pub BeginsWithSchemaFault : Vocabulary → List ℕ → List Fault → Type 0
BeginsWithSchemaFault taken text [] = Unit {0}
BeginsWithSchemaFault taken text (first ∷ further) = IsSchemaRefusal taken text first

-- the fault is one of a schema's text
abbrev pub is_of_schema : Fault → Bool
is_of_schema (SchemaNotJson offset is_cut) = true
is_of_schema (NotInteger offset in_schema) = in_schema
is_of_schema (Keyword place name) = true
is_of_schema (Shape place name) = true
is_of_schema (Reference place name) = true
is_of_schema (Loop names) = true
is_of_schema _ = false

-- the place that such a fault tells, and the names
abbrev pub place_of : Fault → List ℕ
place_of (Keyword place name) = string_bytes place
place_of (Shape place name) = string_bytes place
place_of (Reference place name) = string_bytes place
place_of _ = []

abbrev pub names_of : Fault → List (String Global)
names_of (Keyword place name) = name ∷ []
names_of (Shape place name) = name ∷ []
names_of (Reference place name) = name ∷ []
names_of (Loop names) = names.items
names_of _ = []

-- two faults have one number, and the same place and the same names
abbrev pub is_same : Fault → Fault → Bool
is_same f g = nat_eq (number_of f) (number_of g) && (bytes_eq (place_of f) (place_of g) && pointwise string_eq (names_of f) (names_of g))

-- all faults are of a schema's text, and no two are the same
pub record AreDistinctFaults (faults : List Fault) : Type 0 where
  pub told : AllByRecursion (λ f. is_of_schema f ≡ true) faults
  pub distinct : IsDistinct is_same faults

-- ---- for private contracts alone

-- the fault is that of a document which is no schema by these keywords, for this flaw
pub record IsFaultOf (taken : Vocabulary) (d : Document) (f : Fault) : Type 0 where
  pub flaw : SchemaFault
  pub is : f ≡ of_schema flaw
  pub refused : IsRefusal taken flaw d
  pub other : ¬ (flaw ≡ fault.OutOfMemory)

-- the first of the faults is that of a document
abbrev pub BeginsWithFaultOf : Vocabulary → Document → List Fault → Type 0
BeginsWithFaultOf taken d [] = Unit {0}
BeginsWithFaultOf taken d (first ∷ further) = IsFaultOf taken d first
