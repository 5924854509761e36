-- The exported text beside the table of the translation.
use Rattle.std.specs.Prelude.{ℕ, List}
use Rattle.cs_document.specs.Document.{Document}
use Rattle.cs_grammar.specs.declared.profile.Profile.{Profile}
use Rattle.cs_json.specs.Texts.{Reads}
use Rattle.cs_package.specs.Environment.{Environment}
use Rattle.cs_compile.specs.Translation.{IsTranslation}
use Rattle.cs_tool.specs.Accepted.{DeclaresRoot}

-- the schema that the text is read as has, for each definition that the root reaches, the schema of the translation
abbrev pub IsTranslated : Profile → List (List ℕ) → List ℕ → List ℕ → Type 0
IsTranslated p sources root text = (E : Environment) (n : List ℕ) (schema : Document) → DeclaresRoot p sources root E n → Reads text schema → IsTranslation E n schema
