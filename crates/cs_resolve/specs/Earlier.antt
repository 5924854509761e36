-- What the profile's first edition took for a package: no conjunction was exempt from the opening rule, and each literal
-- was read as it is written.
use Rattle.std.specs.Prelude.{◌≡◌, false, List}
use Rattle.cs_grammar.specs.Tree.{FileTree}
use Rattle.cs_package.specs.Environment.{Environment}
use Rattle.cs_resolve.specs.Opening.{IsOpened}
use Rattle.cs_resolve.specs.PackageName.{IsOnePackage}
use Rattle.cs_resolve.specs.Refinement.{Refinements}
use Rattle.cs_resolve.specs.Resolved.{environment_of_files, IsSmall, IsResolved}

-- no operands were a plain refinement
abbrev pub no_refinements : Refinements
no_refinements es = false

-- the files were one package, and declared the environment
pub record IsPackageEarlier (fs : List FileTree) (E : Environment) : Type 0 where
  pub agree : IsOnePackage fs
  pub small : IsSmall fs
  pub resolved : IsResolved fs
  pub opened : IsOpened no_refinements fs
  pub declares : E ≡ environment_of_files no_refinements fs
