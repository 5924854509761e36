-- What files with selectors stand for, and why they are refused.
use Rattle.std.specs.Prelude.{◌≡◌, ◌<◌, ◌≤◌, length, ℕ, suc, ◌==◌, List, [], ◌∷◌, ◌++◌, map, Option, Some, None, slice_get, if◌then◌else◌}
use Rattle.std.specs.List.{flat_map}
use Rattle.std.specs.Option.{unwrap_or}
use Rattle.cs_grammar.specs.Atom.{top}
use Rattle.cs_grammar.specs.Tree.{Selector, Tree, atom, paren, conjunction, Trees, none, more, DefinitionTree, definition, FileTree, file, package_name, definitions, names}
use Rattle.cs_names.specs.Lifted.{all_definitions}
use Rattle.cs_plain.specs.Bodies.{Body, bodies_in}
use Rattle.cs_plain.specs.Placed.{in_places}
use Rattle.cs_plain.specs.Selecting.{referring, referring_definition}
use Rattle.cs_selectors.specs.Given.{Given, known, given_names, gifts, AreApart}
use Rattle.cs_selectors.specs.Reached.{is_single, texts, lack}
use Rattle.cs_selectors.specs.Uses.{Place, Use, uses_from}
use Rattle.cs_selectors.specs.declared.fault.SelectorFault.{SelectorFault}
use Rattle.cs_selectors.specs.declared.fault.SelectorFault.TheVariants as refused
use Rattle.cs_selectors.specs.declared.lack.Lack.{Lack}
use Rattle.cs_selectors.specs.declared.lack.Lack.TheVariants as lacks

-- ---- what files stand for

-- the definition that a selector is made, by the name before it and its labels
abbrev pub names_by : List Given → List ℕ → List Selector → List ℕ
names_by gs s ls = unwrap_or (known gs (s ∷ texts ls)) s

-- an expression of one node needs no parentheses
abbrev pub operand : Tree → Tree
operand e = if is_single e then e else paren e

abbrev pub operands : List Tree → Trees
operands [] = none
operands (e ∷ es) = more (operand e) (operands es)

-- all values at once: one alone is itself (CUE, unification)
abbrev pub together : List Tree → Tree
together [] = atom top
together (e ∷ []) = e
together (e ∷ f ∷ es) = conjunction (operands (e ∷ f ∷ es))

module _ (by : List ℕ → List Selector → List ℕ) (i : ℕ) where
  -- a definition that is made, in the file i, if the first of its selectors is there
  abbrev pub added_at : Given → List DefinitionTree
  added_at g = if g.home.0 == i then definition g.name g.home.1 (referring by (together g.values)) ∷ [] else []

  abbrev pub added : List Given → List DefinitionTree
  added gs = flat_map added_at gs

  abbrev pub unselected_file : List Given → FileTree → FileTree
  unselected_file gs f = file (package_name f) (map (referring_definition by) (definitions f) ++ added gs) (names f)

-- of files whose numbers count from i
abbrev pub unselected_from : List Given → ℕ → List FileTree → List FileTree
unselected_from gs i [] = []
unselected_from gs i (f ∷ fs) = unselected_file (names_by gs) i gs f ∷ unselected_from gs (suc i) fs

abbrev pub unselected_files : List FileTree → List FileTree
unselected_files fs = unselected_from (gifts fs) 0 fs

-- ---- what is at fault

abbrev pub at_fault : Place → Option Lack → List (Place × Lack)
at_fault p None = []
at_fault p (Some l) = (p, l) ∷ []

abbrev pub fault_of : List Body → Use → List (Place × Lack)
fault_of bs u = at_fault u.place (lack bs u)

-- in order of the files and of the text
abbrev pub selector_faults : List FileTree → List (Place × Lack)
selector_faults fs = flat_map (fault_of (bodies_in fs)) (uses_from 0 fs)

-- how many selectors files may have (own rule)
abbrev pub most_selectors : ℕ
most_selectors = 4096

abbrev pub AreFew : List FileTree → Type 0
AreFew fs = length (uses_from 0 fs) ≤ most_selectors

-- there are few, nothing is at fault, each selector has a definition of its own, and the files gs are what the files fs stand for, where plain values stand
-- in the places of the selectors
pub record AreUnselected (fs gs : List FileTree) : Type 0 where
  pub few : AreFew fs
  pub faultless : selector_faults fs ≡ []
  pub apart : AreApart (all_definitions fs) (gifts fs)
  pub unselected : gs ≡ in_places (given_names (gifts fs)) (unselected_files fs)

abbrev pub IsFirst : List FileTree → Place × Lack → Type 0
IsFirst fs x = AreFew fs × (slice_get (selector_faults fs) 0 ≡ Some x)

-- too many, or the first of what is at fault
abbrev pub IsRefusal : SelectorFault → List FileTree → Type 0
IsRefusal refused.OutOfMemory fs = Unit {0}
IsRefusal (refused.LeftOut i o) fs = IsFirst fs ((i, o), lacks.LeftOut)
IsRefusal (refused.UnknownName i o) fs = IsFirst fs ((i, o), lacks.Unknown)
IsRefusal (refused.NotRegular i o) fs = IsFirst fs ((i, o), lacks.NotRegular)
IsRefusal refused.TooLarge fs = most_selectors < length (uses_from 0 fs)
