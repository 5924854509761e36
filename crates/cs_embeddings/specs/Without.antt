-- What files with embeddings stand for, and why they are refused.
use Rattle.std.specs.Prelude.{◌≡◌, ℕ, suc, ◌<◌, ◌≤◌, List, [], ◌∷◌, ◌++◌, map, Some, slice_get}
use Rattle.std.specs.List.{flat_map}
use Rattle.cs_grammar.specs.Height.{file_height, height_definitions}
use Rattle.cs_grammar.specs.Limits.{most_height, most_nodes}
use Rattle.cs_grammar.specs.Tree.{Tree, body, DefinitionTree, FileTree, definitions}
use Rattle.cs_embeddings.specs.Bodies.{Left, left_in, joined_left, body_clashes}
use Rattle.cs_embeddings.specs.Flaws.{Flaw, unknown, no_struct, flaws}
use Rattle.cs_embeddings.specs.Size.{size_of_files}
use Rattle.cs_embeddings.specs.declared.fault.EmbeddingFault.{EmbeddingFault}
use Rattle.cs_embeddings.specs.declared.fault.EmbeddingFault.TheVariants.{OutOfMemory, UnknownName, NoStruct, Reopened, TooHigh, TooLarge}

-- what is found in the bodies of files, each with the number of its file, which count from i
abbrev pub found_from : {A : Type 0} → (Tree → List A) → ℕ → List FileTree → List (ℕ × A)
found_from found i [] = []
found_from found i (f ∷ fs) = map (λ x. (i, x)) (flat_map (λ d. found (body d)) (definitions f)) ++ found_from found (suc i) fs

abbrev pub all_definitions : List FileTree → List DefinitionTree
all_definitions fs = flat_map definitions fs

abbrev pub flaws_of_files : List FileTree → List (ℕ × Flaw)
flaws_of_files fs = found_from (flaws (all_definitions fs)) 0 fs

-- what would be opened in files, which count from i
abbrev pub clashes_from : List DefinitionTree → ℕ → List Left → List (ℕ × ℕ)
clashes_from ds i [] = []
clashes_from ds i (l ∷ ls) = map (λ o. (i, o)) (flat_map (body_clashes ds) l.bodies) ++ clashes_from ds (suc i) ls

abbrev pub clashes_of_files : List FileTree → List (ℕ × ℕ)
clashes_of_files fs = clashes_from (all_definitions fs) 0 (left_in fs)

abbrev pub joined_files : List FileTree → List FileTree
joined_files fs = map (joined_left (all_definitions fs)) (left_in fs)

-- nothing is at fault, and the files gs are what the files fs stand for
pub record IsJoined (fs gs : List FileTree) : Type 0 where
  pub flawless : flaws_of_files fs ≡ []
  pub apart : clashes_of_files fs ≡ []
  pub joined : gs ≡ joined_files fs

-- they are no higher and no larger than a package may be
pub record IsWithin (gs : List FileTree) : Type 0 where
  pub low : height_definitions (all_definitions gs) ≤ most_height
  pub small : size_of_files gs ≤ most_nodes

-- the first flaw; or, where there is none, the first value that an embedding would open, a file of which a body would be too high, or too many
-- nodes
abbrev pub IsRefusal : EmbeddingFault → List FileTree → Type 0
IsRefusal OutOfMemory fs = Unit {0}
IsRefusal (UnknownName i o) fs = slice_get (flaws_of_files fs) 0 ≡ Some (i, unknown o)
IsRefusal (NoStruct i o) fs = slice_get (flaws_of_files fs) 0 ≡ Some (i, no_struct o)
IsRefusal (Reopened i o) fs = (flaws_of_files fs ≡ []) × (slice_get (clashes_of_files fs) 0 ≡ Some (i, o))
IsRefusal (TooHigh i) fs = (flaws_of_files fs ≡ []) × ((f : FileTree) × (slice_get (joined_files fs) i ≡ Some f) × (most_height < file_height f))
IsRefusal TooLarge fs = (flaws_of_files fs ≡ []) × (most_nodes < size_of_files (joined_files fs))
