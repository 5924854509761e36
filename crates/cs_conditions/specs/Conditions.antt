-- What files with conditions stand for, and why they are refused.
use Rattle.std.specs.Prelude.{◌≡◌, ℕ, suc, List, [], ◌∷◌, ◌++◌, map, Some, slice_get}
use Rattle.std.specs.List.{flat_map}
use Rattle.cs_grammar.specs.Tree.{Tree, body, FileTree, definitions}
use Rattle.cs_conditions.specs.declared.fault.ConditionFault.{ConditionFault}
use Rattle.cs_conditions.specs.declared.fault.ConditionFault.TheVariants as refused
use Rattle.cs_conditions.specs.declared.flaws.Flaw.{Flaw}
use Rattle.cs_conditions.specs.declared.flaws.Flaw.TheVariants.{LeftOut, MayBeAbsent}
use Rattle.cs_conditions.specs.Chosen.{chosen_file}
use Rattle.cs_conditions.specs.Faults.{flaws}
use Rattle.cs_conditions.specs.Known.{known_in}

-- what is found in the bodies of files, each with the number of its file, which count from i
abbrev pub found_from : (Tree → List Flaw) → ℕ → List FileTree → List (ℕ × Flaw)
found_from found i [] = []
found_from found i (f ∷ fs) = map (λ x. (i, x)) (flat_map (λ d. found (body d)) (definitions f)) ++ found_from found (suc i) fs

-- what is at fault, in order of the files and of the text
abbrev pub condition_faults : List FileTree → List (ℕ × Flaw)
condition_faults fs = found_from (flaws (known_in fs)) 0 fs

-- nothing is at fault, and the files gs are what the files fs stand for
pub record AreChosen (fs gs : List FileTree) : Type 0 where
  pub faultless : condition_faults fs ≡ []
  pub chosen : gs ≡ map (chosen_file (known_in fs)) fs

-- the first of what is at fault
abbrev pub IsRefusal : ConditionFault → List FileTree → Type 0
IsRefusal refused.OutOfMemory fs = Unit {0}
IsRefusal (refused.LeftOut i o) fs = slice_get (condition_faults fs) 0 ≡ Some (i, LeftOut o)
IsRefusal (refused.MayBeAbsent i o) fs = slice_get (condition_faults fs) 0 ≡ Some (i, MayBeAbsent o)
