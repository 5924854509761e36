-- Which refusal of a call comes when; memory may run out at any time.
use Rattle.std.specs.Prelude.{ℕ, true, false, List}
use Rattle.cs_document.specs.Document.{Document}
use Rattle.cs_grammar.specs.declared.profile.Profile.{Profile}
use Rattle.cs_json.specs.Refusal as unread
use Rattle.cs_json.specs.Texts.{Reads}
use Rattle.cs_document.specs.declared.fault.DocFault.TheVariants as doc
use Rattle.cs_schema.specs.Profile.{IsSchema}
use Rattle.cs_schema.specs.Refusal as schema
use Rattle.cs_profile.specs.declared.fault.SchemaFault.{SchemaFault}
use Rattle.cs_profile.specs.declared.fault.SchemaFault.TheVariants as schema_fault
use Rattle.cs_profile.specs.declared.keyword.Vocabulary.{Vocabulary}
use Rattle.cs_tool.specs.First.{First}
use Rattle.cs_tool.specs.Ready.{IsReady, RootHasManyPairs, SchemaHasManyPairs, ExportHasManyPairs}
use Rattle.cs_tool.specs.declared.fault.Fault.{Fault}
use Rattle.cs_tool.specs.declared.fault.Fault.TheVariants.{OutOfMemory, SchemaNotJson, Keyword, Shape, Reference, Loop, NotJson, NotInteger, TooManyPairs}

abbrev pub ExportRefusal : Profile → List (List ℕ) → List ℕ → Fault → Type 0
ExportRefusal p sources root OutOfMemory = Unit {0}
ExportRefusal p sources root f = First p sources root f

-- the document's text comes after the sources and the root, and its pairs with the rules of the root come last
abbrev pub VetRefusal : Profile → List (List ℕ) → List ℕ → List ℕ → Fault → Type 0
VetRefusal p sources root text OutOfMemory = Unit {0}
VetRefusal p sources root text (NotJson offset is_cut) = IsReady p sources root × unread.IsRefusal (doc.NotJson offset is_cut) text
VetRefusal p sources root text (NotInteger offset false) = IsReady p sources root × unread.IsRefusal (doc.NotInteger offset) text
VetRefusal p sources root text (TooManyPairs items rules false) = RootHasManyPairs p sources root text items rules
VetRefusal p sources root text f = First p sources root f

-- the schema's text is read as a document, which is no schema with only keywords that are taken, by this fault
pub record IsNoSchema (taken : Vocabulary) (schema_text : List ℕ) (f : SchemaFault) : Type 0 where
  pub document : Document
  pub read : Reads schema_text document
  pub refused : schema.IsRefusal taken f document

-- the schema's text is read as a schema with only keywords that are taken
pub record IsSchemaText (taken : Vocabulary) (schema_text : List ℕ) : Type 0 where
  pub document : Document
  pub read : Reads schema_text document
  pub profile : IsSchema taken document

-- the document's text comes after the schema's, and the pairs come last
abbrev pub ValidateRefusal : Vocabulary → List ℕ → List ℕ → Fault → Type 0
ValidateRefusal taken schema_text text OutOfMemory = Unit {0}
ValidateRefusal taken schema_text text (SchemaNotJson offset is_cut) = unread.IsRefusal (doc.NotJson offset is_cut) schema_text
ValidateRefusal taken schema_text text (Keyword place name) = IsNoSchema taken schema_text (schema_fault.Keyword place name)
ValidateRefusal taken schema_text text (Shape place name) = IsNoSchema taken schema_text (schema_fault.Shape place name)
ValidateRefusal taken schema_text text (Reference place name) = IsNoSchema taken schema_text (schema_fault.Reference place name)
ValidateRefusal taken schema_text text (Loop names) = IsNoSchema taken schema_text (schema_fault.Loop names)
ValidateRefusal taken schema_text text (NotInteger offset true) = unread.IsRefusal (doc.NotInteger offset) schema_text
ValidateRefusal taken schema_text text (NotInteger offset false) = IsSchemaText taken schema_text × unread.IsRefusal (doc.NotInteger offset) text
ValidateRefusal taken schema_text text (NotJson offset is_cut) = IsSchemaText taken schema_text × unread.IsRefusal (doc.NotJson offset is_cut) text
ValidateRefusal taken schema_text text (TooManyPairs items rules true) = SchemaHasManyPairs taken schema_text text items rules
ValidateRefusal taken schema_text text _ = ⊥

-- the conditions of an export come first, then the document's text, and last its pairs with the rules of the root or of the
-- exported schema
abbrev pub AgreeRefusal : Profile → List (List ℕ) → List ℕ → List ℕ → Fault → Type 0
AgreeRefusal p sources root text OutOfMemory = Unit {0}
AgreeRefusal p sources root text (NotJson offset is_cut) = IsReady p sources root × unread.IsRefusal (doc.NotJson offset is_cut) text
AgreeRefusal p sources root text (NotInteger offset false) = IsReady p sources root × unread.IsRefusal (doc.NotInteger offset) text
AgreeRefusal p sources root text (TooManyPairs items rules false) = IsReady p sources root × RootHasManyPairs p sources root text items rules
AgreeRefusal p sources root text (TooManyPairs items rules true) = IsReady p sources root × ExportHasManyPairs p sources root text items rules
AgreeRefusal p sources root text f = First p sources root f
