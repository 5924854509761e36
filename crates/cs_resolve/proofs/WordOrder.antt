-- The words of a cut stand one behind the other.
use Rattle.std.proofs.Common.{◌≡◌, ℕ, zero, suc, ◌≤◌, List, [], ◌∷◌, take, Some, arith}
use Rattle.cs_grammar.specs.Cut.{Lexeme, lexeme, Cut, blank, new_line, comment, attribute, token, finish, comma_if}
use Rattle.cs_grammar.specs.Spelling.{sort_of}
use Rattle.cs_grammar.specs.TokenWords.{kind_of, word, words}
use Rattle.cs_grammar.specs.Words as W
use Rattle.cs_grammar.specs.Words.{Word, Words, start}
use Rattle.cs_grammar.specs.declared.line.LineState.{LineState}
use Rattle.cs_grammar.specs.declared.line.LineState.TheVariants.{Plain, WantsComma, Minus}
use Rattle.cs_grammar.specs.declared.token.Sort.{Sort}
use Rattle.cs_grammar.specs.declared.token.Sort.TheVariants as sorts
use Rattle.cs_grammar.proofs.Views.{start_word_of}

-- ---- words

-- where the next word may stand: the inserted comma and the end take no room
abbrev pub next : Word → ℕ
next (W.nl o) = o
next (W.finish o) = o
next w = suc (start w)

-- the words stand at o or later, each behind the one before
pub data From : ℕ → Words → Type 0 where
  ended : {o : ℕ} → From o []
  comes : {o : ℕ} {w : Word} {ws : Words} → o ≤ start w → From (next w) ws → From o (w ∷ ws)

pub later : {o p : ℕ} {ws : Words} → o ≤ p → From p ws → From o ws
later le ended = ended
later le (comes at rest) = comes (omega arith) rest

pub at_least : {o : ℕ} {w : Word} {ws : Words} → From o (w ∷ ws) → o ≤ start w
at_least (comes at rest) = at

pub past : {o : ℕ} {w : Word} {ws : Words} → From o (w ∷ ws) → From (next w) ws
past (comes at rest) = rest

room : (w : Word) → start w ≤ next w
room (W.nl o) = omega arith
room (W.finish o) = omega arith
room w = omega arith

pub tail : {o : ℕ} {w : Word} {ws : Words} → From o (w ∷ ws) → From o ws
tail (comes {o} {w} at rest) = let k = room w in later (omega arith) rest

-- ---- the cut

short_room : (w : Word) → next w ≤ suc (start w)
short_room (W.nl o) = omega arith
short_room (W.finish o) = omega arith
short_room w = omega arith

from_comma : (l : LineState) (o : ℕ) (ks : List Lexeme) → From o (words ks) → From o (words (comma_if l o ks))
from_comma WantsComma o ks h = comes (omega arith) h
from_comma Plain o ks h = h
from_comma Minus o ks h = h

-- a token has a byte
long_token : (n : ℕ) (s : Sort) (bs : List ℕ) → sort_of (take n bs) ≡ Some s → 1 ≤ n
long_token zero s bs h = cc
long_token (suc n) s bs h = omega arith

pub from_cut : {bs : List ℕ} {o : ℕ} {l : LineState} {ks : List Lexeme} → Cut bs o l ks → From o (words ks)
from_cut (blank h k) = later (omega arith) (from_cut k)
from_cut (new_line {o} {l} {ks} h k) = from_comma l o ks (later (omega arith) (from_cut k))
from_cut (comment {o} {bs} {l} {ks} h k) = from_comma l o ks (later (omega arith) (from_cut k))
from_cut (attribute h k) = absurd cc
from_cut (token {n} {o} {s} {bs} b k) =
    let long = long_token n s bs b.token.spelled in
    let at = start_word_of (kind_of s (take n bs)) (take n bs) o in
    let least = short_room (word (lexeme s (take n bs) o)) in
    comes (omega arith) (later (omega arith) (from_cut k))
from_cut (finish {o} {l}) = from_comma l o (lexeme sorts.End [] o ∷ []) (comes (omega arith) ended)
