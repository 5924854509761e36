-- Which trees have no parts and name nothing; for contracts of copies alone.
use Rattle.std.specs.Prelude.{Bool, true, false}
use Rattle.cs_grammar.specs.Tree.{Tree, atom}

abbrev pub is_atom : Tree → Bool
is_atom (atom a) = true
is_atom _ = false
