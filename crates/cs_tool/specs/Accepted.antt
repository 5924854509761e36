-- Which sources a profile accepts, and what they declare (own rules): the files that they spell stand for files of the default profile, which are
-- a package. Those of the default profile stand for themselves.
use Rattle.std.specs.Prelude.{ℕ, List}
use Rattle.cs_grammar.specs.Tree.{FileTree}
use Rattle.cs_grammar.specs.declared.profile.Profile.{Profile}
use Rattle.cs_package.specs.Environment.{Environment, Names}
use Rattle.cs_resolve.specs.Resolved.{IsPackage}
use Rattle.cs_guard.specs.Guarded.{IsGuarded}
use Rattle.cs_tool.specs.FilesIn.{AreFilesIn}
use Rattle.cs_tool.specs.Stands.{AreMeantIn}
use Rattle.cs_tool.specs.Texts.{AreTexts}

-- the sources are accepted in the profile, and declare the environment
pub record IsAccepted (p : Profile) (sources : List (List ℕ)) (E : Environment) : Type 0 where
  pub texts : AreTexts sources
  pub files : List FileTree
  pub spelled : AreFilesIn p sources files
  pub meant : List FileTree
  pub stand_for : AreMeantIn p files meant
  pub one_package : IsPackage meant E
  pub guarded : IsGuarded E

-- the sources are accepted in the profile and declare the environment E, and the root is its definition n
pub record DeclaresRoot (p : Profile) (sources : List (List ℕ)) (root : List ℕ) (E : Environment) (n : List ℕ) : Type 0 where
  pub accepted : IsAccepted p sources E
  pub named : Names E root n
