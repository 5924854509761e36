-- What the functions of the translation make; for private contracts alone.
use Rattle.std.specs.Prelude.{◌≡◌, Bool, ◌||◌, List, Option, Result, IfOk, is_some}
use Rattle.cs_document.specs.Document.{Document}
use Rattle.cs_profile.specs.SchemaDocument.{schema_view, unless_no_list}
use Rattle.cs_profile.specs.declared.schema.Schema.{Schema}
use Rattle.cs_compile.specs.Translation.{closing}

-- a schema, unless memory runs out
abbrev pub Makes : {E : Type 0} → Result Schema E → Document → Type 0
Makes r d = IfOk r (λ s. schema_view s ≡ d)

-- what stands for the other labels, beside the schemas of every key
abbrev pub closing_beside : Bool → List Document → Option Document
closing_beside opened every = closing (opened || is_some (unless_no_list every))
