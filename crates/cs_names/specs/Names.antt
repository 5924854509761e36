-- What files with names stand for, and why they are refused.
use Rattle.std.specs.Prelude.{◌≡◌, ℕ, List, [], ◌++◌, true, Some, slice_get}
use Rattle.cs_grammar.specs.Tree.{FileTree}
use Rattle.cs_plain.specs.Placed.{in_places}
use Rattle.cs_plain.specs.References.{references_in}
use Rattle.cs_names.specs.Flaws.{flaws_in}
use Rattle.cs_names.specs.Joined.{unused, joined}
use Rattle.cs_names.specs.Lifted.{AreApart, lifts, all_definitions}
use Rattle.cs_names.specs.Named.{named_files, value_names}
use Rattle.cs_names.specs.declared.fault.NameFault.{NameFault}
use Rattle.cs_names.specs.declared.fault.NameFault.TheVariants as refused
use Rattle.cs_names.specs.declared.flaws.Flaw.{Flaw}
use Rattle.cs_names.specs.declared.flaws.Flaw.TheVariants as flaws

-- what is at fault: first each name by itself, in order of the files and of the text, then what is bound and not named, then what may be joined
abbrev pub name_faults : List FileTree → List (ℕ × Flaw)
name_faults fs = flaws_in fs ++ (unused (references_in true (named_files fs)) (lifts fs) ++ joined (named_files fs) (lifts fs))

-- nothing is at fault, each name has a definition of its own, and the files gs are what the files fs stand for, where plain values are in the places of
-- their names
pub record AreNamed (fs gs : List FileTree) : Type 0 where
  pub faultless : name_faults fs ≡ []
  pub apart : AreApart (all_definitions fs) (lifts fs)
  pub named : gs ≡ in_places (value_names (lifts fs)) (named_files fs)

-- the first of what is at fault
abbrev pub IsRefusal : NameFault → List FileTree → Type 0
IsRefusal refused.OutOfMemory fs = Unit {0}
IsRefusal (refused.LeftOut i o) fs = slice_get (name_faults fs) 0 ≡ Some (i, flaws.LeftOut o)
IsRefusal (refused.UnknownName i o) fs = slice_get (name_faults fs) 0 ≡ Some (i, flaws.Unknown o)
IsRefusal (refused.NamesField i o) fs = slice_get (name_faults fs) 0 ≡ Some (i, flaws.Field o)
IsRefusal (refused.Redeclared i o) fs = slice_get (name_faults fs) 0 ≡ Some (i, flaws.Again o)
