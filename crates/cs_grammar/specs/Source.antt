-- What file a source spells, however deep it nests (CUE, source file organization).
use Rattle.std.specs.Prelude.{ℕ, List}
use Rattle.cs_grammar.specs.Cut.{Lexeme}
use Rattle.cs_grammar.specs.CutIn.{IsCutIn}
use Rattle.cs_grammar.specs.Tree.{FileTree}
use Rattle.cs_grammar.specs.Spells.{SpellsFile}
use Rattle.cs_grammar.specs.TokenWords.{words}
use Rattle.cs_grammar.specs.Taken.{taken}
use Rattle.cs_grammar.specs.declared.profile.Profile.{Profile}
use Rattle.cs_grammar.specs.declared.profile.Profile.TheVariants as profiles

-- the tokens of the source, as the profile takes them, spell the file
pub record IsSpelledByIn (p : Profile) (source : List ℕ) (f : FileTree) : Type 0 where
  pub tokens : List Lexeme
  pub cut : IsCutIn p source tokens
  pub spelled : SpellsFile f (words (taken p tokens))

-- in the default profile
abbrev pub IsSpelledBy : List ℕ → FileTree → Type 0
IsSpelledBy = IsSpelledByIn profiles.Default
