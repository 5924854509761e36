-- Which file is told where files name several packages (own rule).
use Rattle.std.specs.Prelude.{ℕ, Bool, false, not, List, Option, position, slice_get}
use Rattle.std.specs.List.{filter_map}
use Rattle.std.specs.Option.{option_and_then, option_map_or}
use Rattle.std.specs.Str.{bytes_eq}
use Rattle.cs_grammar.specs.Tree.{FileTree, package_name}

-- the first package name that a file gives
abbrev pub first_named : List FileTree → Option (List ℕ)
first_named fs = slice_get (filter_map package_name fs) 0

-- whether the file names another package than n
abbrev pub names_other : List ℕ → FileTree → Bool
names_other n f = option_map_or (λ m. not (bytes_eq m n)) (package_name f) false

-- the first file whose package name differs from the first one given
abbrev pub differing_file : List FileTree → Option ℕ
differing_file fs = option_and_then (λ n. position (names_other n) fs) (first_named fs)
