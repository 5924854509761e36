-- Texts that are read as documents.
use Rattle.std.proofs.Common.{◌≡◌, ℕ, List, Option, Some, None, refl}
use Rattle.std.specs.Option.{IsSome, option_and_then}
use Rattle.cs_document.specs.Document.{Document}
use Rattle.cs_document.specs.declared.fault.DocFault.{DocFault}
use Rattle.cs_document.specs.declared.fault.DocFault.TheVariants as doc
use Rattle.cs_json.specs.Refusal as unread
use Rattle.cs_json.specs.Texts.{Reads}
use Rattle.cs_json.specs.Refusal.{IsJson, HasOtherNumber}
use Rattle.cs_profile.specs.declared.keyword.Vocabulary.{Vocabulary}
use Rattle.cs_tool.specs.CallRefusals.{IsSchemaText, ValidateRefusal}
use Rattle.cs_tool.specs.Conversions.{of_schema_text}
use Rattle.cs_tool.specs.declared.fault.Fault.TheVariants.{OutOfMemory}

some_before : {A B : Type 0} (f : A → Option B) (o : Option A) (y : B) → option_and_then f o ≡ Some y → IsSome o
some_before f None y e = cc
some_before f (Some x) y e = refl

pub is_json : (b : List ℕ) (d : Document) → Reads b d → IsJson b
is_json b d reads = (reads.0, some_before _ _ d reads.1)

pub no_other : (b : List ℕ) (d : Document) → Reads b d → HasOtherNumber b → ⊥
no_other b d reads other = cc (reads.1, other.1)

-- a text is read as one document
pub one_document : (b : List ℕ) (d e : Document) → Reads b d → Reads b e → d ≡ e
one_document b d e reads also = cc (reads.1, also.1)

-- what refuses a schema's text is why `validate` does, and none but memory refuses that of a schema
pub unread_schema : (taken : Vocabulary) (s t : List ℕ) (e : DocFault) → unread.IsRefusal e s → ValidateRefusal taken s t (of_schema_text e)
unread_schema taken s t doc.OutOfMemory h = tt
unread_schema taken s t (doc.NotJson o c) h = h
unread_schema taken s t (doc.NotInteger o) h = h

pub schema_alone : {taken : Vocabulary} (s : List ℕ) → IsSchemaText taken s → (e : DocFault) → unread.IsRefusal e s → of_schema_text e ≡ OutOfMemory
schema_alone s is doc.OutOfMemory h = refl
schema_alone s is (doc.NotJson o c) h = absurd (h.0 (is_json s is.document is.read))
schema_alone s is (doc.NotInteger o) h = absurd (no_other s is.document is.read h.0)
