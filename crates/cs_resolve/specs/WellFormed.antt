-- What is used of files to resolve them: a definition has the name of one, and each `&` and each `|` joins two operands or more (CUE, definitions and
-- expressions). All files that a text spells are so, and all that can be written down.
use Rattle.std.specs.Prelude.{List}
use Rattle.std.specs.List.{AllByRecursion}
use Rattle.cs_grammar.specs.Tree.{Tree, atom, named, reference, conjunction, disjunction, paren, struct, list, wide, Trees, none, more, Fields, no_field, field, End, closed, any, each, DefinitionTree, defined_name, body, FileTree, definitions}
use Rattle.cs_grammar.specs.Written.{AreTwo}
use Rattle.cs_package.specs.Environment.{IsDefinitionName}

-- each `&` and each `|` in it, at any depth; of a form of the wide profile nothing is used
abbrev mutual
  pub IsWellFormed : Tree → Type 0
  IsWellFormed (atom a) = Unit {0}
  IsWellFormed (named n o) = Unit {0}
  IsWellFormed (reference n o) = Unit {0}
  IsWellFormed (conjunction es) = AreTwo es × AreWellFormed es
  IsWellFormed (disjunction es) = AreTwo es × AreWellFormed es
  IsWellFormed (paren e) = IsWellFormed e
  IsWellFormed (struct o fs opened) = AreWellFormedFields fs
  IsWellFormed (list es end) = AreWellFormed es × IsWellFormedEnd end
  IsWellFormed (wide w) = Unit {0}

  pub AreWellFormed : Trees → Type 0
  AreWellFormed none = Unit {0}
  AreWellFormed (more e es) = IsWellFormed e × AreWellFormed es

  pub AreWellFormedFields : Fields → Type 0
  AreWellFormedFields no_field = Unit {0}
  AreWellFormedFields (field l m e fs) = IsWellFormed e × AreWellFormedFields fs

  pub IsWellFormedEnd : End → Type 0
  IsWellFormedEnd closed = Unit {0}
  IsWellFormedEnd any = Unit {0}
  IsWellFormedEnd (each e) = IsWellFormed e

abbrev pub IsWellFormedDefinition : DefinitionTree → Type 0
IsWellFormedDefinition d = IsDefinitionName (defined_name d) × IsWellFormed (body d)

abbrev pub IsWellFormedFile : FileTree → Type 0
IsWellFormedFile f = AllByRecursion IsWellFormedDefinition (definitions f)

abbrev pub AreWellFormedFiles : List FileTree → Type 0
AreWellFormedFiles fs = AllByRecursion IsWellFormedFile fs
