-- Want of memory is no fault of a schema. The first fault counts, whatever comes behind it; faults of different kinds aren't the same, nor are those
-- of different places or names.
use Rattle.std.proofs.Common.{◌≡◌, ℕ, List, [], ◌∷◌, true, false, refl, String}
use Rattle.std.specs.declared.alloc.Global.{Global}
use Rattle.std.specs.Prelude.{string_bytes, string_eq}
use Rattle.std.specs.Str.{bytes_eq}
use Rattle.std.specs.String.{string_eq_equiv}
use Rattle.cs_profile.specs.declared.keyword.Vocabulary.{Vocabulary}
use Rattle.cs_tool.specs.declared.fault.Fault.{Fault}
use Rattle.cs_tool.specs.declared.fault.Fault.TheVariants.{OutOfMemory, NotInteger, SchemaNotJson, Keyword, Shape, Reference}
use Rattle.cs_check.specs.SchemaFaults.{IsSchemaRefusal, BeginsWithSchemaFault, is_of_schema, is_same}

no_memory : (v : Vocabulary) (text : List ℕ) → ¬ (IsSchemaRefusal v text OutOfMemory)
no_memory v text h = h.other refl

none : (v : Vocabulary) (text : List ℕ) → BeginsWithSchemaFault v text []
none v text = tt

first_of_two : (v : Vocabulary) (text : List ℕ) (f g : Fault) → BeginsWithSchemaFault v text (f ∷ g ∷ []) → IsSchemaRefusal v text f
first_of_two v text f g h = h

of_schema : (is_of_schema (SchemaNotJson 3 true) ≡ true) × (is_of_schema (NotInteger 3 true) ≡ true)
of_schema = (refl, refl)

of_document : is_of_schema (NotInteger 3 false) ≡ false
of_document = refl

kinds : (p n : String Global) → is_same (Keyword p n) (Shape p n) ≡ false
kinds p n = refl

other_kinds : (p n : String Global) → is_same (Shape p n) (Reference p n) ≡ false
other_kinds p n = refl

texts : is_same (SchemaNotJson 3 true) (NotInteger 3 true) ≡ false
texts = refl

other_place : (p q n : String Global) → bytes_eq (string_bytes p) (string_bytes q) ≡ false → is_same (Shape p n) (Shape q n) ≡ false
other_place p q n apart = cc apart
