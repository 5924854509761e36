-- The definitions of a schema, one by one: what the proofs know of them. No clause of a public call names these.
use Rattle.std.specs.Prelude.{◌≡◌, ℕ, List, Some, IsSome, String}
use Rattle.std.specs.declared.alloc.Global.{Global}
use Rattle.cs_document.specs.Document.{Document, Members, no_members, member, Entry, entries}
use Rattle.cs_document.specs.View.{members_of}
use Rattle.cs_package.specs.Expression.{Expression}
use Rattle.cs_package.specs.Environment.{Environment, bodies, IsDefinitionName}
use Rattle.cs_guard.specs.Reachable.{RefersTo, Reaches}
use Rattle.cs_profile.specs.SchemaDocument.{definitions_view}
use Rattle.cs_profile.specs.declared.schema.Schema.{Schema}
use Rattle.cs_compile.specs.Translation.{definition_schema}

-- the definitions of a schema, by their names
abbrev pub definition_entries : List (String Global × Schema) → List (Entry Document)
definition_entries ds = entries (members_of (definitions_view ds))

-- d is the schema of the bodies of n, which is one of the names to be written
pub record IsDefinition (E : Environment) (Asked : List ℕ → Type 0) (n : List ℕ) (d : Document) : Type 0 where
  pub asked : Asked n
  pub spelled : IsDefinitionName n
  pub operands : List Expression
  pub declared : bodies E n ≡ Some operands
  pub schema : d ≡ definition_schema operands

-- each member is the definition of its key
abbrev pub AreDefinitionsOf : Environment → (List ℕ → Type 0) → Members → Type 0
AreDefinitionsOf E Asked no_members = Unit {0}
AreDefinitionsOf E Asked (member n d ms) = IsDefinition E Asked n d × AreDefinitionsOf E Asked ms

-- those of the names that the root reaches
abbrev pub AreDefinitions : Environment → List ℕ → Members → Type 0
AreDefinitions E root = AreDefinitionsOf E (Reaches E root)

-- the environment declares the name
abbrev pub IsDeclared : Environment → List ℕ → Type 0
IsDeclared E n = IsSome (bodies E n)

-- each name that a declared one refers to is declared
abbrev pub IsResolved : Environment → Type 0
IsResolved E = (n m : List ℕ) → IsDeclared E n → RefersTo E n m → IsDeclared E m
