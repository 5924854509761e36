-- What the profile's first edition accepted. Three forms were added since: `[string]: T`, recursion through a `|`, and
-- closed definitions that a literal narrows.
use Rattle.std.specs.Prelude.{ℕ, List, [], ◌∷◌}
use Rattle.cs_grammar.specs.Tree.{FileTree}
use Rattle.cs_guard.specs.Earlier.{IsGuardedEarlier}
use Rattle.cs_package.specs.Environment.{Environment}
use Rattle.cs_resolve.specs.Earlier.{IsPackageEarlier}
use Rattle.cs_syntax.specs.Earlier.{IsSpelledEarlier}
use Rattle.cs_tool.specs.Texts.{AreTexts}

-- each source was spelled by the file at its place
abbrev pub AreFilesEarlier : List (List ℕ) → List FileTree → Type 0
AreFilesEarlier [] [] = Unit {0}
AreFilesEarlier [] (f ∷ fs) = ⊥
AreFilesEarlier (s ∷ ss) [] = ⊥
AreFilesEarlier (s ∷ ss) (f ∷ fs) = IsSpelledEarlier s f × AreFilesEarlier ss fs

-- the sources were accepted, and declared the environment
pub record IsAcceptedEarlier (sources : List (List ℕ)) (E : Environment) : Type 0 where
  pub texts : AreTexts sources
  pub files : List FileTree
  pub spelled : AreFilesEarlier sources files
  pub one_package : IsPackageEarlier files E
  pub guarded : IsGuardedEarlier E
