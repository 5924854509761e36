-- Definitions without instances.
use Rattle.std.specs.Prelude.{◌≡◌, ℕ, Bool, false, List, Some}
use Rattle.cs_document.specs.Document.{Document, IsDocument}
use Rattle.cs_package.specs.Environment.{Environment, name_at}
use Rattle.cs_instance.specs.Instance.{Rule, definition, IsInstance}

-- no document is an instance of the definition of that number
pub record HasNoDocument (E : Environment) (i : ℕ) : Type 0 where
  pub name : List ℕ
  pub at : name_at E i ≡ Some name
  pub none : (I : Rule → Document → Bool) → IsInstance E I → (x : Document) → IsDocument x → I (definition name) x ≡ false
