-- The package clauses of files (CUE language specification, "Packages"): files that name a package all name the same
-- one. A file without the clause joins any package (own rule).
use Rattle.std.specs.Prelude.{◌≡◌, ℕ, List, Some, slice_get}
use Rattle.cs_grammar.specs.Tree.{FileTree, package_name}

-- any two files that name a package name the same one
abbrev pub IsOnePackage : List FileTree → Type 0
IsOnePackage fs = (i j : ℕ) (f g : FileTree) (n m : List ℕ) → slice_get fs i ≡ Some f → slice_get fs j ≡ Some g → package_name f ≡ Some n → package_name g ≡ Some m → n ≡ m
