-- What files with marks stand for, and why they are refused.
use Rattle.std.specs.Prelude.{◌≡◌, ℕ, suc, Bool, true, List, [], ◌∷◌, ◌++◌, map, Some, slice_get}
use Rattle.std.specs.List.{flat_map}
use Rattle.cs_grammar.specs.Tree.{Tree, body, FileTree, definitions}
use Rattle.cs_defaults.specs.declared.fault.DefaultFault.{DefaultFault}
use Rattle.cs_defaults.specs.declared.fault.DefaultFault.TheVariants.{OutOfMemory, Mark}
use Rattle.cs_defaults.specs.Marks.{misplaced}
use Rattle.cs_defaults.specs.Leading.{hands_on}
use Rattle.cs_defaults.specs.Absent.{clashes}
use Rattle.cs_defaults.specs.Unmarked.{unmarked_file}

-- the places that are found in the bodies of files, each with the number of its file, which count from i
abbrev pub places_from : (Tree → List ℕ) → ℕ → List FileTree → List (ℕ × ℕ)
places_from found i [] = []
places_from found i (f ∷ fs) = map (λ o. (i, o)) (flat_map (λ d. found (body d)) (definitions f)) ++ places_from found (suc i) fs

-- which definitions of the files hand on a default
abbrev pub handing_on : List FileTree → List ℕ → Bool
handing_on fs = hands_on (flat_map definitions fs)

-- what is at fault: first the marks out of place, in order of the files and of the text, and then the defaults that could be excluded
abbrev pub mark_faults : List FileTree → List (ℕ × ℕ)
mark_faults fs = places_from (misplaced true) 0 fs ++ places_from (clashes (handing_on fs)) 0 fs

-- nothing is at fault, and the files gs are what the files fs stand for
pub record IsUnmarked (fs gs : List FileTree) : Type 0 where
  pub faultless : mark_faults fs ≡ []
  pub unmarked : gs ≡ map (unmarked_file (handing_on fs)) fs

-- the first of what is at fault
abbrev pub IsRefusal : DefaultFault → List FileTree → Type 0
IsRefusal OutOfMemory fs = Unit {0}
IsRefusal (Mark file offset) fs = slice_get (mark_faults fs) 0 ≡ Some (file, offset)
