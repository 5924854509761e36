-- Which expressions are plain (own rule): those that hold no struct literal and no reference.
use Rattle.std.specs.Prelude.{Bool, true, false, ◌||◌}
use Rattle.cs_grammar.specs.Tree.{Tree, atom, named, reference, conjunction, disjunction, paren, struct, list, wide, Trees, none, more, End, closed, any, each}

-- whether it holds a struct literal or a reference, so that it isn't plain
abbrev mutual
  pub has_literal_or_reference : Tree → Bool
  has_literal_or_reference (atom a) = false
  has_literal_or_reference (named n o) = false
  has_literal_or_reference (reference n o) = true
  has_literal_or_reference (conjunction es) = has_literal_or_reference_some es
  has_literal_or_reference (disjunction es) = has_literal_or_reference_some es
  has_literal_or_reference (paren e) = has_literal_or_reference e
  has_literal_or_reference (struct o fs opened) = true
  has_literal_or_reference (list es end) = has_literal_or_reference_some es || has_literal_or_reference_end end
  has_literal_or_reference (wide w) = false

  pub has_literal_or_reference_some : Trees → Bool
  has_literal_or_reference_some none = false
  has_literal_or_reference_some (more e es) = has_literal_or_reference e || has_literal_or_reference_some es

  pub has_literal_or_reference_end : End → Bool
  has_literal_or_reference_end closed = false
  has_literal_or_reference_end any = false
  has_literal_or_reference_end (each e) = has_literal_or_reference e
