-- When a source is what files are printed as: it spells one file with all their definitions, which is theirs apart from offsets.
use Rattle.std.specs.Prelude.{◌≡◌, ℕ, List, [], ◌∷◌, map, Option, None}
use Rattle.std.specs.List.{flat_map}
use Rattle.std.specs.Option.{option_or}
use Rattle.cs_grammar.specs.declared.ast.FieldMark.{FieldMark}
use Rattle.cs_grammar.specs.declared.ast.FieldMark.TheVariants.{Regular, Optional, Required, Every}
use Rattle.cs_grammar.specs.Source.{IsSpelledBy}
use Rattle.cs_syntax.specs.Answer.{IsSpelled}
use Rattle.cs_grammar.specs.Tree.{Tree, atom, named, reference, conjunction, disjunction, paren, struct, list, wide, Trees, none, more, Fields, no_field, field, End, closed, any, each, DefinitionTree, definition, definitions, names, package_name, FileTree, file}

-- a tree with 0 in place of each offset
abbrev pub unplaced_mark : FieldMark → FieldMark
unplaced_mark Regular = Regular
unplaced_mark Optional = Optional
unplaced_mark Required = Required
unplaced_mark (Every o) = Every 0

abbrev mutual
  pub unplaced : Tree → Tree
  unplaced (atom a) = atom a
  unplaced (named s o) = named s 0
  unplaced (reference s o) = reference s 0
  unplaced (conjunction es) = conjunction (unplaced_all es)
  unplaced (disjunction es) = disjunction (unplaced_all es)
  unplaced (paren e) = paren (unplaced e)
  unplaced (struct o fs b) = struct 0 (unplaced_fields fs) b
  unplaced (list es end) = list (unplaced_all es) (unplaced_end end)
  unplaced (wide w) = wide w

  pub unplaced_all : Trees → Trees
  unplaced_all none = none
  unplaced_all (more e es) = more (unplaced e) (unplaced_all es)

  pub unplaced_fields : Fields → Fields
  unplaced_fields no_field = no_field
  unplaced_fields (field l m e fs) = field l (unplaced_mark m) (unplaced e) (unplaced_fields fs)

  pub unplaced_end : End → End
  unplaced_end closed = closed
  unplaced_end any = any
  unplaced_end (each e) = each (unplaced e)

abbrev pub unplaced_definition : DefinitionTree → DefinitionTree
unplaced_definition (definition s o e) = definition s 0 (unplaced e)

abbrev pub unplaced_file : FileTree → FileTree
unplaced_file f = file (package_name f) (map unplaced_definition (definitions f)) (names f)

-- the first package clause of files
abbrev pub first_clause : List FileTree → Option (List ℕ)
first_clause [] = None
first_clause (f ∷ fs) = option_or (package_name f) (first_clause fs)

-- the file that has all their definitions, in their order, and no other names
abbrev pub joined_file : List FileTree → FileTree
joined_file fs = file (first_clause fs) (flat_map definitions fs) []

-- the source spells these files as one, apart from offsets
pub record IsPrinted (source : List ℕ) (fs : List FileTree) : Type 0 where
  pub tree : FileTree
  pub spelled : IsSpelledBy source tree
  pub same : unplaced_file tree ≡ unplaced_file (joined_file fs)

-- the same within the limits of nesting and height, so that the file is what `parse_file` answers for the source
pub record IsReadAs (source : List ℕ) (fs : List FileTree) : Type 0 where
  pub tree : FileTree
  pub spelled : IsSpelled source tree
  pub same : unplaced_file tree ≡ unplaced_file (joined_file fs)
