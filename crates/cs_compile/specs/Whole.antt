-- The schema of a package at a root definition, and what it says.
use Rattle.std.specs.Prelude.{◌≡◌, ◌↔◌, ℕ, ◌≤◌, List, Bool, IsSome, option_map}
use Rattle.cs_document.specs.Document.{Document, object, no_members, IsDocument, depth}
use Rattle.cs_package.specs.Environment.{Environment, bodies}
use Rattle.cs_package.specs.Height.{IsLow}
use Rattle.cs_guard.specs.Reachable.{Reaches}
use Rattle.cs_instance.specs.Instance.{Rule, definition, IsInstance}
use Rattle.cs_profile.specs.Keywords.{defined}
use Rattle.cs_profile.specs.Root.{reference_to}
use Rattle.cs_profile.specs.SchemaDocument.{SchemaValue, document_of, schema_view}
use Rattle.cs_profile.specs.Validity.{IsValidity}
use Rattle.cs_compile.specs.Depth.{most_schema_depth}
use Rattle.cs_compile.specs.Translation.{definition_schema}

-- the schema of the environment at its definition n: it refers to that definition, defines exactly the names that n reaches, and
-- validates exactly the instances of n; where no body is too high, it nests no deeper than `most_schema_depth`
pub record Compiles (E : Environment) (n : List ℕ) (s : SchemaValue) : Type 0 where
  pub root : schema_view s.root ≡ reference_to n
  pub definitions : (m : List ℕ) → IsSome (defined (document_of s) m) ↔ Reaches E n m
  pub meaning : (V : Document → Document → Bool) (I : Rule → Document → Bool) → IsValidity (document_of s) V → IsInstance E I
      → (x : Document) → IsDocument x → V (document_of s) x ≡ I (definition n) x
  pub nested : IsLow E → depth (document_of s) ≤ most_schema_depth

-- the schema of all definitions of the environment: its root asks nothing and refers to none of them, it defines exactly the declared
-- names, each by the schema of its bodies, and a reference to one of them validates exactly its instances; where no body is too high, it
-- nests no deeper than `most_schema_depth`
pub record CompilesAll (E : Environment) (s : SchemaValue) : Type 0 where
  pub root : schema_view s.root ≡ object no_members
  pub written : (n : List ℕ) → defined (document_of s) n ≡ option_map definition_schema (bodies E n)
  pub meaning : (V : Document → Document → Bool) (I : Rule → Document → Bool) → IsValidity (document_of s) V → IsInstance E I
      → (n : List ℕ) → IsSome (bodies E n) → (x : Document) → IsDocument x → V (reference_to n) x ≡ I (definition n) x
  pub nested : IsLow E → depth (document_of s) ≤ most_schema_depth
