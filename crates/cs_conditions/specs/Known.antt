-- What is known of the definitions where conditions ask for fields.
use Rattle.std.specs.Prelude.{ℕ, List, Option}
use Rattle.std.specs.List.{flat_map}
use Rattle.cs_grammar.specs.Tree.{Tree, DefinitionTree, FileTree, definitions}
use Rattle.cs_conditions.specs.Defaults.{to, default_within}
use Rattle.cs_conditions.specs.Kinds.{kinds_within}
use Rattle.cs_conditions.specs.declared.kinds.Kinds.{Kinds}

-- of each its kinds, and the default that it hands on
pub record Knowledge : Type 0 where
  pub kinds : List ℕ → Kinds
  pub default : List ℕ → Option Tree

-- so many names lead from one to the next at most: a longer chain is refused for its length
abbrev pub most_passed : ℕ
most_passed = 65

abbrev pub kinds_known : List DefinitionTree → List ℕ → Kinds
kinds_known ds s = kinds_within ds most_passed s

abbrev pub default_known : List DefinitionTree → List ℕ → Option Tree
default_known ds s = default_within ds most_passed (to s)

abbrev pub known_of : List DefinitionTree → Knowledge
known_of ds = record { kinds = kinds_known ds; default = default_known ds }

abbrev pub known_in : List FileTree → Knowledge
known_in fs = known_of (flat_map definitions fs)
