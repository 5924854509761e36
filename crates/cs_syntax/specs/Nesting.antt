-- How deep words nest, whatever they spell (own rule): at a word, the brackets that are open, and on each open level the short colons since that level's last comma.
use Rattle.std.specs.Prelude.{ℕ, suc, ◌+◌, ◌-◌, max, Bool, true, false, ◌||◌, List, [], ◌∷◌, length}
use Rattle.std.specs.List.{sum}
use Rattle.cs_grammar.specs.Words.{Word, Words, name, definition_name, hidden, top_mark, bottom_mark, numeral, quoted, open_struct, open_wide, close_struct, open_list, close_list, open_paren, open_call, close_paren, comma, nl, colon, question, bang, amp, bar, dots, relation, unequal, minus, star, equal, local, dot, assign, left_out, finish, wide_finish}
use Rattle.cs_grammar.specs.Spells.{is_string}

-- These words, the newest first, end with a name or a text that is directly behind a colon.
abbrev pub ends_with_chained_label : Words → Bool
ends_with_chained_label (name s o ∷ colon p ∷ before) = true
ends_with_chained_label (quoted s o ∷ colon p ∷ before) = true
ends_with_chained_label _ = false

-- They end with `[string]` that is directly behind a colon.
abbrev pub ends_with_chained_string : Words → Bool
ends_with_chained_string (close_list o ∷ name s p ∷ open_list q ∷ colon r ∷ before) = is_string s
ends_with_chained_string _ = false

-- A colon behind these words, the newest first, is short: its label, with its mark, is directly behind another colon.
-- `[string]` is a label that takes no mark.
abbrev pub is_short : Words → Bool
is_short (question o ∷ before) = ends_with_chained_label before
is_short (bang o ∷ before) = ends_with_chained_label before
is_short before = ends_with_chained_label before || ends_with_chained_string before

-- Each open level is the count of its short colons since its last comma: the innermost comes first, and the bottom level is last.
abbrev pub OpenLevels : Type 0
OpenLevels = List ℕ

-- a closing bracket drops its level with that level's short colons; one on the bottom level changes nothing
abbrev pub closed : OpenLevels → OpenLevels
closed [] = []
closed (n ∷ []) = n ∷ []
closed (n ∷ m ∷ ns) = m ∷ ns

-- a comma ends the short colons of its level
abbrev pub parted : OpenLevels → OpenLevels
parted [] = []
parted (n ∷ ns) = 0 ∷ ns

-- a colon counts where it is short
abbrev pub counted_if : Bool → OpenLevels → OpenLevels
counted_if true [] = []
counted_if true (n ∷ ns) = suc n ∷ ns
counted_if false ns = ns

-- the levels behind a word; the words before it come newest first
abbrev pub behind : Words → Word → OpenLevels → OpenLevels
behind before (open_struct o) ns = 0 ∷ ns
behind before (open_wide o) ns = 0 ∷ ns
behind before (open_list o) ns = 0 ∷ ns
behind before (open_paren o) ns = 0 ∷ ns
behind before (open_call o) ns = 0 ∷ ns
behind before (close_struct o) ns = closed ns
behind before (close_list o) ns = closed ns
behind before (close_paren o) ns = closed ns
behind before (comma o) ns = parted ns
behind before (nl o) ns = parted ns
behind before (colon o) ns = counted_if (is_short before) ns
behind before (name s o) ns = ns
behind before (definition_name s o) ns = ns
behind before (hidden o) ns = ns
behind before (top_mark o) ns = ns
behind before (bottom_mark o) ns = ns
behind before (numeral n o) ns = ns
behind before (quoted s o) ns = ns
behind before (question o) ns = ns
behind before (bang o) ns = ns
behind before (amp o) ns = ns
behind before (bar o) ns = ns
behind before (dots o) ns = ns
behind before (relation r o) ns = ns
behind before (unequal o) ns = ns
behind before (minus o) ns = ns
behind before (star o) ns = ns
behind before (equal o) ns = ns
behind before (local s o) ns = ns
behind before (dot o) ns = ns
behind before (assign o) ns = ns
behind before (left_out o) ns = ns
behind before (finish o) ns = ns
behind before (wide_finish o) ns = ns

-- the levels above the bottom one, and all their short colons
abbrev pub nesting_at : OpenLevels → ℕ
nesting_at ns = length ns - 1 + sum ns

-- the greatest nesting at a word; the words passed come newest first
abbrev pub nesting_from : Words → OpenLevels → Words → ℕ
nesting_from before ns [] = nesting_at ns
nesting_from before ns (w ∷ ts) = max (nesting_at ns) (nesting_from (w ∷ before) (behind before w ns) ts)

abbrev pub nesting : Words → ℕ
nesting ts = nesting_from [] (0 ∷ []) ts

-- how deep the tokens of a file may nest (own rule)
abbrev pub most_nested : ℕ
most_nested = 28
