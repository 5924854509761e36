-- The files that `parse_file` answers.
use Rattle.std.specs.Prelude.{ℕ, ◌≤◌, List}
use Rattle.cs_grammar.specs.Cut.{Lexeme, IsCut}
use Rattle.cs_grammar.specs.Tree.{FileTree}
use Rattle.cs_grammar.specs.Spells.{SpellsFile}
use Rattle.cs_grammar.specs.TokenWords.{words}
use Rattle.cs_grammar.specs.Limits.{most_height}
use Rattle.cs_grammar.specs.Height.{file_height}
use Rattle.cs_syntax.specs.Nesting.{nesting, most_nested}

-- the tokens that a source is cut into, as they are taken, nest no deeper than 28 and spell a file that has no body higher than 28
pub record IsSpelledWith (IsCutInto : List ℕ → List Lexeme → Type 0) (taken : List Lexeme → List Lexeme) (source : List ℕ) (f : FileTree) : Type 0 where
  pub tokens : List Lexeme
  pub cut : IsCutInto source tokens
  pub nested : nesting (words (taken tokens)) ≤ most_nested
  pub spelled : SpellsFile f (words (taken tokens))
  pub low : file_height f ≤ most_height

-- in the default profile, which takes the tokens as they are
abbrev pub IsSpelled : List ℕ → FileTree → Type 0
IsSpelled = IsSpelledWith IsCut (λ ks. ks)
