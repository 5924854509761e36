-- Why a document is refused, by the keywords that are taken and the first fault (own rule).
use Rattle.std.specs.Prelude.{◌≡◌, ℕ, List, [], ◌∷◌, map, Some, None, string_bytes}
use Rattle.std.specs.Cmp.Lexicographic.{slice_cmp}
use Rattle.std.specs.Ordering.{nat_cmp}
use Rattle.std.specs.declared.cmp.Ordering.TheVariants.{Less}
use Rattle.std.specs.List.{AllByRecursion, IsDistinct}
use Rattle.std.specs.Str.{bytes_eq}
use Rattle.cs_document.specs.Document.{Document}
use Rattle.cs_graph.specs.Chains.{IsClosed}
use Rattle.cs_profile.specs.Loops.{RefersDirectly}
use Rattle.cs_profile.specs.Profile.{unknown, misshapen, undefined, walk_fault, name_fault}
use Rattle.cs_profile.specs.declared.keyword.Vocabulary.{Vocabulary}
use Rattle.cs_profile.specs.declared.fault.SchemaFault.{SchemaFault}
use Rattle.cs_profile.specs.declared.fault.SchemaFault.TheVariants as fault

-- the first of some names is the least in byte order
abbrev pub LeastFirst : List (List ℕ) → Type 0
LeastFirst [] = Unit {0}
LeastFirst (n ∷ ns) = AllByRecursion (λ m. slice_cmp nat_cmp n m ≡ Less) ns

-- each of the names refers directly to the next, and the last one to the first
abbrev pub IsLoop : Document → List (List ℕ) → Type 0
IsLoop R = IsClosed (RefersDirectly R)

-- each of the names refers directly to the next and the last to the first, no name stands twice, and the least is first
pub record IsLeastLoop (d : Document) (names : List (List ℕ)) : Type 0 where
  pub loop : IsLoop d names
  pub distinct : IsDistinct bytes_eq names
  pub least : LeastFirst names

-- there is no fault of a keyword, a value or a name, and the names are a loop
pub record IsLoopOf (taken : Vocabulary) (d : Document) (names : List (List ℕ)) : Type 0 where
  pub shaped : walk_fault taken d ≡ None
  pub named : name_fault d ≡ None
  pub told : IsLeastLoop d names

-- the refusal of what has no other fault
abbrev pub IsLoopRefusal : SchemaFault → Document → Type 0
IsLoopRefusal fault.OutOfMemory d = Unit {0}
IsLoopRefusal (fault.Loop ns) d = IsLeastLoop d (map string_bytes ns.items)
IsLoopRefusal (fault.Keyword p n) d = ⊥
IsLoopRefusal (fault.Shape p n) d = ⊥
IsLoopRefusal (fault.Reference p n) d = ⊥

-- the refusal tells the first fault: of a keyword or a value, then of a name, then a loop; memory may run
-- out at any time
abbrev pub IsRefusal : Vocabulary → SchemaFault → Document → Type 0
IsRefusal taken fault.OutOfMemory d = Unit {0}
IsRefusal taken (fault.Keyword p n) d = walk_fault taken d ≡ Some (unknown (string_bytes p) (string_bytes n))
IsRefusal taken (fault.Shape p n) d = walk_fault taken d ≡ Some (misshapen (string_bytes p) (string_bytes n))
IsRefusal taken (fault.Reference p n) d = (walk_fault taken d ≡ None) × (name_fault d ≡ Some (undefined (string_bytes p) (string_bytes n)))
IsRefusal taken (fault.Loop ns) d = IsLoopOf taken d (map string_bytes ns.items)
