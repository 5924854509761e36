-- What a source spelled by the profile's first edition, before `[string]: T` was taken: no label is `[string]`.
use Rattle.std.specs.Prelude.{ℕ, ◌≤◌, Bool, max, List, [], ◌∷◌}
use Rattle.cs_grammar.specs.Cut.{Lexeme, IsCut}
use Rattle.cs_grammar.specs.Labels.{IsLabelledFile}
use Rattle.cs_grammar.specs.Spells.{SpellsFile}
use Rattle.cs_grammar.specs.Tree.{FileTree}
use Rattle.cs_grammar.specs.TokenWords.{words}
use Rattle.cs_grammar.specs.Words.{Word, Words, colon, question, bang}
use Rattle.cs_grammar.specs.Limits.{most_height}
use Rattle.cs_grammar.specs.Height.{file_height}
use Rattle.cs_syntax.specs.Nesting.{OpenLevels, ends_with_chained_label, counted_if, behind, nesting_at, most_nested}

-- a colon behind these words, the newest first, is short where its label is a name or a text that is directly behind another colon
abbrev pub is_short_earlier : Words → Bool
is_short_earlier (question o ∷ before) = ends_with_chained_label before
is_short_earlier (bang o ∷ before) = ends_with_chained_label before
is_short_earlier before = ends_with_chained_label before

-- the levels behind a word: a colon counts where it is short by these labels, and every other word is as it is now
abbrev pub behind_earlier : Words → Word → OpenLevels → OpenLevels
behind_earlier before (colon o) ns = counted_if (is_short_earlier before) ns
behind_earlier before w ns = behind before w ns

-- how deep words nested
abbrev pub nesting_from_earlier : Words → OpenLevels → Words → ℕ
nesting_from_earlier before ns [] = nesting_at ns
nesting_from_earlier before ns (w ∷ ts) = max (nesting_at ns) (nesting_from_earlier (w ∷ before) (behind_earlier before w ns) ts)

abbrev pub earlier_nesting : Words → ℕ
earlier_nesting ts = nesting_from_earlier [] (0 ∷ []) ts

-- the tokens of a source spelled the file: no field is `[string]: T`, and the limits are those of now
pub record IsSpelledEarlier (source : List ℕ) (f : FileTree) : Type 0 where
  pub tokens : List Lexeme
  pub cut : IsCut source tokens
  pub nested : earlier_nesting (words tokens) ≤ most_nested
  pub spelled : SpellsFile f (words tokens)
  pub labelled : IsLabelledFile f
  pub low : file_height f ≤ most_height
