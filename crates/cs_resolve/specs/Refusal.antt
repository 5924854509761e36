-- What files are given to `resolve`, and why they are no package (own rules).
use Rattle.std.specs.Prelude.{◌≡◌, ℕ, List, Some, length, slice_get}
use Rattle.std.specs.List.{All, flat_map}
use Rattle.cs_grammar.specs.Source.{IsSpelledBy}
use Rattle.cs_grammar.specs.Tree.{FileTree, definitions}
use Rattle.cs_resolve.specs.Declarations.{names, faults_of_files}
use Rattle.cs_resolve.specs.PackageName.{IsOnePackage}
use Rattle.cs_resolve.specs.DifferingFile.{differing_file}
use Rattle.cs_resolve.specs.Refinement.{Refinements, AreRefinements}
use Rattle.cs_resolve.specs.Resolved.{IsSmall, IsResolved}
use Rattle.cs_resolve.specs.Scopes.{unknown, of_field}
use Rattle.cs_resolve.specs.Unopened.{unopened_files}
use Rattle.cs_resolve.specs.declared.fault.ResolveFault.{ResolveFault}
use Rattle.cs_resolve.specs.declared.fault.ResolveFault.TheVariants.{OutOfMemory, PackageName, TooLarge, UnknownName, FieldReference, NotOpened}

-- each file is spelled by the tokens of a text
abbrev pub AreSpelled : List FileTree → Type 0
AreSpelled fs = All (λ f. (t : List ℕ) × IsSpelledBy t f) fs

-- by the plain refinements of the definitions, the first literal that breaks the opening rule is at offset o of the file at
-- number i
pub record IsFirstUnopened (fs : List FileTree) (i o : ℕ) : Type 0 where
  pub refinements : Refinements
  pub are_refinements : AreRefinements (flat_map definitions fs) refinements
  pub first : slice_get (unopened_files refinements fs) 0 ≡ Some (i, o)

-- the first condition that the files fail, in the order of the lines: the first file that names another package; too
-- many definitions or nodes, with how many definitions there are; the first name of all that is at fault, by file and then by text; the first literal that
-- isn't opened, likewise
abbrev pub IsRefusal : ResolveFault → List FileTree → Type 0
IsRefusal OutOfMemory fs = Unit {0}
IsRefusal (PackageName f) fs = differing_file fs ≡ Some f
IsRefusal (TooLarge count) fs = IsOnePackage fs × ¬ (IsSmall fs) × (count ≡ length (names (flat_map definitions fs)))
IsRefusal (UnknownName f o) fs = IsOnePackage fs × IsSmall fs × (slice_get (faults_of_files fs) 0 ≡ Some (f, unknown o))
IsRefusal (FieldReference f o) fs = IsOnePackage fs × IsSmall fs × (slice_get (faults_of_files fs) 0 ≡ Some (f, of_field o))
IsRefusal (NotOpened f o) fs = IsOnePackage fs × IsSmall fs × IsResolved fs × IsFirstUnopened fs f o
