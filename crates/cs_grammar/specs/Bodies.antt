-- The bodies of a definition.
use Rattle.std.specs.Prelude.{ℕ, List, map, filter}
use Rattle.std.specs.Str.{bytes_eq}
use Rattle.cs_grammar.specs.Tree.{Tree, DefinitionTree, defined_name, body}

abbrev pub bodies : List ℕ → List DefinitionTree → List Tree
bodies s ds = map body (filter (λ d. bytes_eq (defined_name d) s) ds)
