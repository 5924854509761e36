-- The definitions that files declare (CUE language specification, "Definitions and hidden fields"): their names in order
-- of first declaration, and the first fault of the names inside.
use Rattle.std.specs.Prelude.{ℕ, suc, not, List, [], ◌∷◌, ◌++◌, map, filter}
use Rattle.std.specs.List.{flat_map}
use Rattle.std.specs.Str.{bytes_eq}
use Rattle.cs_grammar.specs.Tree.{Tree, DefinitionTree, defined_name, body, FileTree, definitions}
use Rattle.cs_resolve.specs.Scopes.{Place, places, NameFault, faults}

-- each once, where it stands first
abbrev pub distinct : List (List ℕ) → List (List ℕ)
distinct [] = []
distinct (n ∷ ns) = n ∷ filter (λ m. not (bytes_eq n m)) (distinct ns)

-- the names that definitions declare
abbrev pub names : List DefinitionTree → List (List ℕ)
names ds = distinct (map defined_name ds)

-- the bodies of a name, by file and then by text
abbrev pub bodies_of : List ℕ → List DefinitionTree → List Tree
bodies_of n ds = map body (filter (λ d. bytes_eq (defined_name d) n) ds)

-- the names, each with all its bodies
abbrev pub declared : List DefinitionTree → List (List ℕ × List Tree)
declared ds = map (λ n. (n, bodies_of n ds)) (names ds)

abbrev pub places_of : List DefinitionTree → List Place
places_of ds = flat_map (λ d. places [] (body d)) ds

-- the faults of names in files from a number on, each with the number of its file
abbrev pub faults_from : ℕ → List (List ℕ) → List FileTree → List (ℕ × NameFault)
faults_from i ns [] = []
faults_from i ns (f ∷ fs) = map (λ x. (i, x)) (faults ns (places_of (definitions f))) ++ faults_from (suc i) ns fs

-- by file, and then in order of the text
abbrev pub faults_of_files : List FileTree → List (ℕ × NameFault)
faults_of_files fs = faults_from 0 (names (flat_map definitions fs)) fs
