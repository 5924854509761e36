-- The definition that an expression refers to (CUE, references), parentheses taken away.
use Rattle.std.specs.Prelude.{ℕ, List, Option, Some, None}
use Rattle.cs_grammar.specs.Tree.{Tree, atom, named, reference, conjunction, disjunction, paren, struct, list, wide}

-- the name of the definition that is referred to
abbrev pub referred : Tree → Option (List ℕ)
referred (atom a) = None
referred (named n o) = None
referred (reference n o) = Some n
referred (conjunction es) = None
referred (disjunction es) = None
referred (paren e) = referred e
referred (struct o fs opened) = None
referred (list es end) = None
referred (wide w) = None
