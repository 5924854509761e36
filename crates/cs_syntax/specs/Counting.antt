-- The nesting as the code counts it: by kinds of tokens, with one count for the word and one for each level.
use Rattle.std.specs.Prelude.{ℕ, ◌+◌, ◌-◌, max, Bool, if◌then◌else◌, List, [], ◌∷◌}
use Rattle.cs_grammar.specs.declared.kind.Kind.{Kind}
use Rattle.cs_grammar.specs.declared.kind.Kind.TheVariants as kinds
use Rattle.cs_syntax.specs.declared.parser.nesting.PrecedingToken.{PrecedingToken}
use Rattle.cs_syntax.specs.declared.parser.nesting.PrecedingToken.TheVariants as before
use Rattle.cs_grammar.specs.Words.{Words}
use Rattle.cs_syntax.specs.Reading.{word_kind, names_string}

-- what is before the next word: a colon; behind a colon a name or a text, its mark, or a part of the label `[string]`; and whether this word is the name `string`
abbrev pub before_next : PrecedingToken → Kind → Bool → PrecedingToken
before_next b kinds.Colon n = before.Colon
before_next before.Colon kinds.Name n = before.Label
before_next before.Colon kinds.Text n = before.Label
before_next before.Colon kinds.OpenList n = before.LabelBracket
before_next before.LabelBracket kinds.Name n = if n then before.LabelName else before.Other
before_next before.LabelName kinds.CloseList n = before.LabelEnd
before_next before.Label kinds.Question n = before.Mark
before_next before.Label kinds.Bang n = before.Mark
before_next b k n = before.Other

-- the short colon that a colon is then
abbrev pub short_colon : PrecedingToken → ℕ
short_colon before.Label = 1
short_colon before.Mark = 1
short_colon before.LabelEnd = 1
short_colon before.Other = 0
short_colon before.Colon = 0
short_colon before.LabelBracket = 0
short_colon before.LabelName = 0

-- The nesting at a word; what it is on the word's level without short colons; the same of the levels around that one, the innermost first.
pub record NestingState : Type 0 where
  pub nested : ℕ
  pub level : ℕ
  pub outer : List ℕ

abbrev pub level_opened : NestingState → NestingState
level_opened l = record { nested = l.nested + 1; level = l.nested + 1; outer = l.level ∷ l.outer }

abbrev pub level_closed : NestingState → List ℕ → NestingState
level_closed l [] = l
level_closed l (n ∷ ns) = record { nested = l.level - 1; level = n; outer = ns }

-- the levels at the next word
abbrev pub levels_next : PrecedingToken → Kind → NestingState → NestingState
levels_next b kinds.OpenStruct l = level_opened l
levels_next b kinds.OpenWide l = level_opened l
levels_next b kinds.OpenList l = level_opened l
levels_next b kinds.OpenParen l = level_opened l
levels_next b kinds.OpenCall l = level_opened l
levels_next b kinds.CloseStruct l = level_closed l l.outer
levels_next b kinds.CloseList l = level_closed l l.outer
levels_next b kinds.CloseParen l = level_closed l l.outer
levels_next b kinds.Comma l = record { nested = l.level; level = l.level; outer = l.outer }
levels_next b kinds.Inserted l = record { nested = l.level; level = l.level; outer = l.outer }
levels_next b kinds.Colon l = record { nested = l.nested + short_colon b; level = l.level; outer = l.outer }
levels_next b k l = l

-- the greatest nesting at a word
abbrev pub counted_from : PrecedingToken → NestingState → Words → ℕ
counted_from b l [] = l.nested
counted_from b l (w ∷ ts) = max l.nested (counted_from (before_next b (word_kind w) (names_string w)) (levels_next b (word_kind w) l) ts)
