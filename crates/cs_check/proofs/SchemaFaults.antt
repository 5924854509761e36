-- The flaws of a schema's document as faults of its text.
use Rattle.std.proofs.Common.{◌≡◌, ℕ, true, List, [], ◌∷◌, refl, sym, subst}
use Rattle.cs_document.specs.Document.{Document}
use Rattle.cs_json.specs.Texts.{Reads}
use Rattle.cs_profile.specs.Refusal.{IsRefusal}
use Rattle.cs_profile.specs.declared.keyword.Vocabulary.{Vocabulary}
use Rattle.cs_profile.specs.declared.fault.SchemaFault.{SchemaFault}
use Rattle.cs_profile.specs.declared.fault.SchemaFault.TheVariants as fault
use Rattle.cs_tool.specs.Conversions.{of_schema}
use Rattle.cs_tool.specs.declared.fault.Fault.{Fault}
use Rattle.cs_check.specs.SchemaFaults.{BeginsWithFaultOf, BeginsWithSchemaFault, IsFaultOf, IsSchemaRefusal, is_of_schema}

pub of_schema_told : (e : SchemaFault) → ¬ (e ≡ fault.OutOfMemory) → is_of_schema (of_schema e) ≡ true
of_schema_told fault.OutOfMemory other = absurd (other refl)
of_schema_told (fault.Keyword place name) other = refl
of_schema_told (fault.Shape place name) other = refl
of_schema_told (fault.Reference place name) other = refl
of_schema_told (fault.Loop names) other = refl

refusal : (v : Vocabulary) (text : List ℕ) (d : Document) (e : SchemaFault) → Reads text d → IsRefusal v e d → ¬ (e ≡ fault.OutOfMemory) → IsSchemaRefusal v text (of_schema e)
refusal v text d fault.OutOfMemory read h other = absurd (other refl)
refusal v text d (fault.Keyword place name) read h other = record { refused = λ document. record { document = d; read = read; refused = h }; other = λ e. cc e }
refusal v text d (fault.Shape place name) read h other = record { refused = λ document. record { document = d; read = read; refused = h }; other = λ e. cc e }
refusal v text d (fault.Reference place name) read h other = record { refused = λ document. record { document = d; read = read; refused = h }; other = λ e. cc e }
refusal v text d (fault.Loop names) read h other = record { refused = λ document. record { document = d; read = read; refused = h }; other = λ e. cc e }

pub begins : (v : Vocabulary) (text : List ℕ) (d : Document) (faults : List Fault) → Reads text d → BeginsWithFaultOf v d faults → BeginsWithSchemaFault v text faults
begins v text d [] read h = tt
begins v text d (f ∷ fs) read h = subst (IsSchemaRefusal v text) (sym h.is) (refusal v text d h.flaw read h.refused h.other)
