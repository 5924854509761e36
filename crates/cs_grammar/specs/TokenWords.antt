-- The word that a token is for the grammar.
use Rattle.std.specs.Prelude.{ℕ, List, [], ◌∷◌, map, ◌==◌, if◌then◌else◌, codes}
use Rattle.std.specs.Str.{bytes_eq}
use Rattle.cs_grammar.specs.declared.token.Sort.{Sort}
use Rattle.cs_grammar.specs.declared.token.Sort.TheVariants as sorts
use Rattle.cs_grammar.specs.declared.kind.Kind.{Kind}
use Rattle.cs_grammar.specs.declared.kind.Kind.TheVariants as kinds
use Rattle.cs_grammar.specs.Values.{integer_value, unescaped}
use Rattle.cs_grammar.specs.Cut.{Lexeme, lexeme}
use Rattle.cs_grammar.specs.Atom.{less, at_most, more, at_least}
use Rattle.cs_grammar.specs.Words as W
use Rattle.cs_grammar.specs.Words.{Word, Words}

-- what a mark is for the grammar
abbrev pub mark_kind : List ℕ → Kind
mark_kind t =
    if bytes_eq t (codes "{") then kinds.OpenStruct else (
    if bytes_eq t (codes "}") then kinds.CloseStruct else (
    if bytes_eq t (codes "[") then kinds.OpenList else (
    if bytes_eq t (codes "]") then kinds.CloseList else (
    if bytes_eq t (codes "(") then kinds.OpenParen else (
    if bytes_eq t (codes ")") then kinds.CloseParen else (
    if bytes_eq t (codes ",") then kinds.Comma else (
    if bytes_eq t (codes ":") then kinds.Colon else (
    if bytes_eq t (codes "?") then kinds.Question else (
    if bytes_eq t (codes "!") then kinds.Bang else (
    if bytes_eq t (codes "&") then kinds.Amp else (
    if bytes_eq t (codes "|") then kinds.Bar else (
    if bytes_eq t (codes "...") then kinds.Dots else (
    if bytes_eq t (codes "<") then kinds.Less else (
    if bytes_eq t (codes "<=") then kinds.AtMost else (
    if bytes_eq t (codes ">") then kinds.More else (
    if bytes_eq t (codes ">=") then kinds.AtLeast else (
    if bytes_eq t (codes "!=") then kinds.Unequal else (
    if bytes_eq t (codes "-") then kinds.Minus else (
    if bytes_eq t (codes "*") then kinds.Star else (
    if bytes_eq t (codes "==") then kinds.Equal else (
    if bytes_eq t (codes ".") then kinds.Dot else (
    if bytes_eq t (codes "=") then kinds.Assign else
    kinds.LeftOut))))))))))))))))))))))

-- what a token is for the grammar where the wide profile reads it in its own way: `{` (123), `(` (40), a name behind `_` (95), or the end, which has no
-- text
abbrev pub wide_kind : List ℕ → Kind
wide_kind [] = kinds.WideEnd
wide_kind (x ∷ xs) = if x == 123 then kinds.OpenWide else (if x == 40 then kinds.OpenCall else (if x == 95 then kinds.Local else kinds.LeftOut))

-- what a token is for the grammar
abbrev pub kind_of : Sort → List ℕ → Kind
kind_of sorts.Name t = kinds.Name
kind_of sorts.Definition t = kinds.Definition
kind_of sorts.Hidden t = kinds.Hidden
kind_of sorts.Top t = kinds.Top
kind_of sorts.Bottom t = kinds.Bottom
kind_of sorts.Integer t = kinds.Integer
kind_of sorts.Text t = kinds.Text
kind_of sorts.Mark t = mark_kind t
kind_of sorts.Wide t = wide_kind t
kind_of sorts.LeftOut t = kinds.LeftOut
kind_of sorts.Inserted t = kinds.Inserted
kind_of sorts.End t = kinds.End

-- the name of a definition without its `#`
abbrev pub bare_name : List ℕ → List ℕ
bare_name [] = []
bare_name (x ∷ xs) = if x == 35 then xs else x ∷ xs

abbrev pub word_of : Kind → List ℕ → ℕ → Word
word_of kinds.Name t o = W.name t o
word_of kinds.Definition t o = W.definition_name (bare_name t) o
word_of kinds.Hidden t o = W.hidden o
word_of kinds.Top t o = W.top_mark o
word_of kinds.Bottom t o = W.bottom_mark o
word_of kinds.Integer t o = W.numeral (integer_value t) o
word_of kinds.Text t o = W.quoted (unescaped t) o
word_of kinds.OpenStruct t o = W.open_struct o
word_of kinds.OpenWide t o = W.open_wide o
word_of kinds.CloseStruct t o = W.close_struct o
word_of kinds.OpenList t o = W.open_list o
word_of kinds.CloseList t o = W.close_list o
word_of kinds.OpenParen t o = W.open_paren o
word_of kinds.OpenCall t o = W.open_call o
word_of kinds.CloseParen t o = W.close_paren o
word_of kinds.Comma t o = W.comma o
word_of kinds.Colon t o = W.colon o
word_of kinds.Question t o = W.question o
word_of kinds.Bang t o = W.bang o
word_of kinds.Amp t o = W.amp o
word_of kinds.Bar t o = W.bar o
word_of kinds.Dots t o = W.dots o
word_of kinds.Less t o = W.relation less o
word_of kinds.AtMost t o = W.relation at_most o
word_of kinds.More t o = W.relation more o
word_of kinds.AtLeast t o = W.relation at_least o
word_of kinds.Unequal t o = W.unequal o
word_of kinds.Minus t o = W.minus o
word_of kinds.Star t o = W.star o
word_of kinds.Equal t o = W.equal o
word_of kinds.Local t o = W.local t o
word_of kinds.Dot t o = W.dot o
word_of kinds.Assign t o = W.assign o
word_of kinds.LeftOut t o = W.left_out o
word_of kinds.Inserted t o = W.nl o
word_of kinds.End t o = W.finish o
word_of kinds.WideEnd t o = W.wide_finish o

-- the word of a token
abbrev pub word : Lexeme → Word
word (lexeme s t o) = word_of (kind_of s t) t o

abbrev pub words : List Lexeme → Words
words ks = map word ks
