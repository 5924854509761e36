-- Files in whose definitions no form of the wide profile stands, at any depth. The sources of the default profile spell such. That no label is a name
-- of a scope, and that a file declares no other names, is said by `IsWrittenFile`.
use Rattle.std.specs.Prelude.{◌≡◌, false}
use Rattle.std.specs.List.{AllByRecursion}
use Rattle.cs_grammar.specs.Tree.{Tree, atom, named, reference, conjunction, disjunction, paren, struct, list, wide, Trees, none, more, Fields, no_field, field, End, closed, any, each, body, FileTree, definitions}

abbrev mutual
  pub IsDefault : Tree → Type 0
  IsDefault (atom a) = Unit {0}
  IsDefault (named n o) = Unit {0}
  IsDefault (reference n o) = Unit {0}
  IsDefault (conjunction es) = AreDefault es
  IsDefault (disjunction es) = AreDefault es
  IsDefault (paren e) = IsDefault e
  IsDefault (struct o fs opened) = AreDefaultFields fs
  IsDefault (list es end) = AreDefault es × IsDefaultEnd end
  IsDefault (wide w) = ⊥

  pub AreDefault : Trees → Type 0
  AreDefault none = Unit {0}
  AreDefault (more e es) = IsDefault e × AreDefault es

  pub AreDefaultFields : Fields → Type 0
  AreDefaultFields no_field = Unit {0}
  -- an author wrote it
  AreDefaultFields (field l m e fs) = (l.asked ≡ false) × IsDefault e × AreDefaultFields fs

  pub IsDefaultEnd : End → Type 0
  IsDefaultEnd closed = Unit {0}
  IsDefaultEnd any = Unit {0}
  IsDefaultEnd (each e) = IsDefault e

abbrev pub IsDefaultFile : FileTree → Type 0
IsDefaultFile f = AllByRecursion (λ d. IsDefault (body d)) (definitions f)
