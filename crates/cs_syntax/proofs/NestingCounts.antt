-- The state in which the code counts is that of the open levels and their short colons.
use Rattle.std.proofs.Common.{◌≡◌, ℕ, suc, ◌+◌, ◌-◌, List, [], ◌∷◌, length, Bool, true, false, cond, refl, ap, ap₂, sym, ◌∙◌, arith}
use Rattle.std.proofs.lemmas.List.Sums.{sum_by-cons}
use Rattle.std.specs.List.{sum}
use Rattle.std.specs.Prelude.{max, ◌&&◌, ◌||◌}
use Rattle.cs_grammar.specs.Atom as atoms
use Rattle.cs_grammar.specs.declared.kind.Kind.{Kind}
use Rattle.cs_grammar.specs.declared.kind.Kind.TheVariants as kinds
use Rattle.cs_syntax.specs.declared.parser.nesting.PrecedingToken.{PrecedingToken}
use Rattle.cs_syntax.specs.declared.parser.nesting.PrecedingToken.TheVariants as before
use Rattle.cs_grammar.specs.Words.{Word, Words, name, quoted, open_struct, open_wide, close_struct, open_list, close_list, open_paren, open_call, close_paren, comma, nl, colon, question, bang, relation}
use Rattle.cs_grammar.specs.Spells.{is_string}
use Rattle.cs_syntax.specs.Reading.{word_kind, names_string}
use Rattle.cs_syntax.specs.Nesting.{ends_with_chained_label, ends_with_chained_string, is_short, closed, counted_if, behind, nesting_at, nesting_from}
use Rattle.cs_syntax.specs.Counting as counting
use Rattle.cs_syntax.specs.Counting.{before_next, short_colon, levels_next, level_opened, level_closed, counted_from}

-- ---- what is before a word

-- the words passed, the newest first
abbrev before_of : Words → PrecedingToken
before_of [] = before.Other
before_of (w ∷ ws) = before_next (before_of ws) (word_kind w) (names_string w)

abbrev is_colon : PrecedingToken → Bool
is_colon before.Colon = true
is_colon _ = false

abbrev is_bracket : PrecedingToken → Bool
is_bracket before.LabelBracket = true
is_bracket _ = false

abbrev is_name : PrecedingToken → Bool
is_name before.LabelName = true
is_name _ = false

abbrev is_label : PrecedingToken → Bool
is_label before.Label = true
is_label _ = false

abbrev is_end : PrecedingToken → Bool
is_end before.LabelEnd = true
is_end _ = false

-- one word further, by its kind
abbrev colon_kind : Kind → Bool
colon_kind kinds.Colon = true
colon_kind _ = false

abbrev bracket_kind : Kind → PrecedingToken → Bool
bracket_kind kinds.OpenList b = is_colon b
bracket_kind _ b = false

abbrev name_kind : Kind → PrecedingToken → Bool → Bool
name_kind kinds.Name b n = is_bracket b && n
name_kind _ b n = false

abbrev label_kind : Kind → PrecedingToken → Bool
label_kind kinds.Name b = is_colon b
label_kind kinds.Text b = is_colon b
label_kind _ b = false

abbrev end_kind : Kind → PrecedingToken → Bool
end_kind kinds.CloseList b = is_name b
end_kind _ b = false

-- what the code's step does to each of these
record Steps (b : PrecedingToken) (k : Kind) (n : Bool) : Type 0 where
  to_colon : is_colon (before_next b k n) ≡ colon_kind k
  to_bracket : is_bracket (before_next b k n) ≡ bracket_kind k b
  to_name : is_name (before_next b k n) ≡ name_kind k b n
  to_label : is_label (before_next b k n) ≡ label_kind k b
  to_end : is_end (before_next b k n) ≡ end_kind k b

steps : (b : PrecedingToken) (k : Kind) (n : Bool) → Steps b k n
steps before.Colon kinds.Colon n = record { to_colon = refl; to_bracket = refl; to_name = refl; to_label = refl; to_end = refl }
steps before.Label kinds.Question n = record { to_colon = refl; to_bracket = refl; to_name = refl; to_label = refl; to_end = refl }
steps before.Mark kinds.Colon n = record { to_colon = refl; to_bracket = refl; to_name = refl; to_label = refl; to_end = refl }
steps before.LabelEnd kinds.Colon n = record { to_colon = refl; to_bracket = refl; to_name = refl; to_label = refl; to_end = refl }
steps before.Other kinds.Colon n = record { to_colon = refl; to_bracket = refl; to_name = refl; to_label = refl; to_end = refl }
steps before.LabelName kinds.CloseList n = record { to_colon = refl; to_bracket = refl; to_name = refl; to_label = refl; to_end = refl }
steps before.LabelBracket kinds.Name true = record { to_colon = refl; to_bracket = refl; to_name = refl; to_label = refl; to_end = refl }
steps before.LabelBracket kinds.Name false = record { to_colon = refl; to_bracket = refl; to_name = refl; to_label = refl; to_end = refl }
steps b k n = record { to_colon = refl; to_bracket = refl; to_name = refl; to_label = refl; to_end = refl }

-- ---- the same by words

abbrev after_colon : Words → Bool
after_colon (colon o ∷ ws) = true
after_colon ws = false

abbrev after_bracket : Words → Bool
after_bracket (open_list o ∷ ws) = after_colon ws
after_bracket ws = false

abbrev after_name : Words → Bool
after_name (name s o ∷ ws) = after_bracket ws && is_string s
after_name ws = false

abbrev after_label : Words → Bool
after_label (name s o ∷ ws) = after_colon ws
after_label (quoted s o ∷ ws) = after_colon ws
after_label ws = false

after_label_is : (ws : Words) → ends_with_chained_label ws ≡ after_label ws
after_label_is (name s o ∷ colon p ∷ ws) = refl
after_label_is (name s o ∷ ws) = refl
after_label_is (quoted s o ∷ colon p ∷ ws) = refl
after_label_is (quoted s o ∷ ws) = refl
after_label_is ws = refl

abbrev after_end : Words → Bool
after_end (close_list o ∷ ws) = after_name ws
after_end ws = false

after_end_is : (ws : Words) → ends_with_chained_string ws ≡ after_end ws
after_end_is (close_list o ∷ name s p ∷ open_list q ∷ colon r ∷ ws) = refl
after_end_is (close_list o ∷ name s p ∷ open_list q ∷ ws) = refl
after_end_is (close_list o ∷ name s p ∷ ws) = refl
after_end_is (close_list o ∷ ws) = refl
after_end_is ws = refl

-- ---- both agree

colon_word : (w : Word) (ws : Words) → colon_kind (word_kind w) ≡ after_colon (w ∷ ws)
colon_word (colon o) ws = refl
colon_word (relation atoms.less o) ws = refl
colon_word (relation atoms.at_most o) ws = refl
colon_word (relation atoms.more o) ws = refl
colon_word (relation atoms.at_least o) ws = refl
colon_word w ws = refl

colons : (ws : Words) → is_colon (before_of ws) ≡ after_colon ws
colons [] = refl
colons (w ∷ ws) = (steps (before_of ws) (word_kind w) (names_string w)).to_colon ∙ colon_word w ws

bracket_word : (w : Word) (ws : Words) → bracket_kind (word_kind w) (before_of ws) ≡ after_bracket (w ∷ ws)
bracket_word (open_list o) ws = colons ws
bracket_word (relation atoms.less o) ws = refl
bracket_word (relation atoms.at_most o) ws = refl
bracket_word (relation atoms.more o) ws = refl
bracket_word (relation atoms.at_least o) ws = refl
bracket_word w ws = refl

brackets : (ws : Words) → is_bracket (before_of ws) ≡ after_bracket ws
brackets [] = refl
brackets (w ∷ ws) = (steps (before_of ws) (word_kind w) (names_string w)).to_bracket ∙ bracket_word w ws

name_word : (w : Word) (ws : Words) → name_kind (word_kind w) (before_of ws) (names_string w) ≡ after_name (w ∷ ws)
name_word (name s o) ws = ap (λ b. b && is_string s) (brackets ws)
name_word (relation atoms.less o) ws = refl
name_word (relation atoms.at_most o) ws = refl
name_word (relation atoms.more o) ws = refl
name_word (relation atoms.at_least o) ws = refl
name_word w ws = refl

names : (ws : Words) → is_name (before_of ws) ≡ after_name ws
names [] = refl
names (w ∷ ws) = (steps (before_of ws) (word_kind w) (names_string w)).to_name ∙ name_word w ws

label_word : (w : Word) (ws : Words) → label_kind (word_kind w) (before_of ws) ≡ after_label (w ∷ ws)
label_word (name s o) ws = colons ws
label_word (quoted s o) ws = colons ws
label_word (relation atoms.less o) ws = refl
label_word (relation atoms.at_most o) ws = refl
label_word (relation atoms.more o) ws = refl
label_word (relation atoms.at_least o) ws = refl
label_word w ws = refl

chained : (ws : Words) → ends_with_chained_label ws ≡ is_label (before_of ws)
chained [] = refl
chained (w ∷ ws) = after_label_is (w ∷ ws) ∙ sym ((steps (before_of ws) (word_kind w) (names_string w)).to_label ∙ label_word w ws)

end_word : (w : Word) (ws : Words) → end_kind (word_kind w) (before_of ws) ≡ after_end (w ∷ ws)
end_word (close_list o) ws = names ws
end_word (relation atoms.less o) ws = refl
end_word (relation atoms.at_most o) ws = refl
end_word (relation atoms.more o) ws = refl
end_word (relation atoms.at_least o) ws = refl
end_word w ws = refl

ended : (ws : Words) → ends_with_chained_string ws ≡ is_end (before_of ws)
ended [] = refl
ended (w ∷ ws) = after_end_is (w ∷ ws) ∙ sym ((steps (before_of ws) (word_kind w) (names_string w)).to_end ∙ end_word w ws)

-- ---- short colons

abbrev short_kind : Kind → PrecedingToken → Bool → Bool
short_kind kinds.Question b n = is_label b
short_kind kinds.Bang b n = is_label b
short_kind k b n = is_label (before_next b k n) || is_end (before_next b k n)

short_next : (b : PrecedingToken) (k : Kind) (n : Bool) → short_colon (before_next b k n) ≡ cond (short_kind k b n) 1 0
short_next before.Other kinds.Colon n = refl
short_next before.Colon kinds.Colon n = refl
short_next before.Label kinds.Colon n = refl
short_next before.Mark kinds.Colon n = refl
short_next before.LabelName kinds.Colon n = refl
short_next before.LabelEnd kinds.Colon n = refl
short_next before.LabelName kinds.CloseList n = refl
short_next before.LabelBracket kinds.Name true = refl
short_next before.LabelBracket kinds.Name false = refl
short_next b k n = refl

unmarked : (ws : Words) → (ends_with_chained_label ws || ends_with_chained_string ws) ≡ (is_label (before_of ws) || is_end (before_of ws))
unmarked ws = ap₂ ◌||◌ (chained ws) (ended ws)

short_word : (w : Word) (ws : Words) → is_short (w ∷ ws) ≡ short_kind (word_kind w) (before_of ws) (names_string w)
short_word (question o) ws = chained ws
short_word (bang o) ws = chained ws
short_word (relation atoms.less o) ws = unmarked (relation atoms.less o ∷ ws)
short_word (relation atoms.at_most o) ws = unmarked (relation atoms.at_most o ∷ ws)
short_word (relation atoms.more o) ws = unmarked (relation atoms.more o ∷ ws)
short_word (relation atoms.at_least o) ws = unmarked (relation atoms.at_least o ∷ ws)
short_word w ws = unmarked (w ∷ ws)

short_is : (ws : Words) → short_colon (before_of ws) ≡ cond (is_short ws) 1 0
short_is [] = refl
short_is (w ∷ ws) = short_next (before_of ws) (word_kind w) (names_string w) ∙ ap (λ b. cond b 1 0) (sym (short_word w ws))

-- ---- levels

-- what the levels around a word's own one nest, its own bracket with them
abbrev base : List ℕ → ℕ
base ns = length ns + sum ns

abbrev bases : List ℕ → List ℕ
bases [] = []
bases (n ∷ ns) = base ns ∷ bases ns

-- the state for levels: the nesting is what is around with the level's own short colons
abbrev state : List ℕ → counting.NestingState
state [] = record { nested = 0; level = 0; outer = [] }
state (n ∷ ns) = record { nested = n + base ns; level = base ns; outer = bases ns }

base-cons : (n : ℕ) (ns : List ℕ) → base (n ∷ ns) ≡ n + base ns + 1
base-cons n ns = let is = sum_by-cons (λ x. x) n ns in omega (arith, is)

pub nesting-cons : (n : ℕ) (ns : List ℕ) → nesting_at (n ∷ ns) ≡ n + (length ns + sum ns)
nesting-cons n ns = let is = sum_by-cons (λ x. x) n ns in omega (arith, is)

state_nesting : (ns : List ℕ) → (state ns).nested ≡ nesting_at ns
state_nesting [] = refl
state_nesting (n ∷ ns) = sym (nesting-cons n ns)

state_is : (n k : ℕ) (ns : List ℕ) → k ≡ n + base ns → record { nested = k; level = base ns; outer = bases ns } ≡ state (n ∷ ns)
state_is n k ns is = ap (λ m. record { nested = m; level = base ns; outer = bases ns }) is

open_is : (n : ℕ) (ns : List ℕ) → level_opened (state (n ∷ ns)) ≡ state (0 ∷ n ∷ ns)
open_is n ns = ap (λ m. record { nested = m; level = m; outer = base ns ∷ bases ns }) (sym (base-cons n ns)) ∙ state_is 0 (base (n ∷ ns)) (n ∷ ns) (omega arith)

close_is : (n : ℕ) (ns : List ℕ) → level_closed (state (n ∷ ns)) (bases ns) ≡ state (closed (n ∷ ns))
close_is n [] = refl
close_is n (m ∷ ms) = state_is m (base (m ∷ ms) - 1) ms (omega (arith, base-cons m ms))

colon_is : (b : Bool) (k n : ℕ) (ns : List ℕ) → k ≡ cond b 1 0 → record { nested = n + base ns + k; level = base ns; outer = bases ns } ≡ state (counted_if b (n ∷ ns))
colon_is true k n ns is = state_is (suc n) (n + base ns + k) ns (omega (arith, is))
colon_is false k n ns is = state_is n (n + base ns + k) ns (omega (arith, is))

levels_is : (ws : Words) (w : Word) (n : ℕ) (ns : List ℕ) → levels_next (before_of ws) (word_kind w) (state (n ∷ ns)) ≡ state (behind ws w (n ∷ ns))
levels_is ws (open_struct o) n ns = open_is n ns
levels_is ws (open_wide o) n ns = open_is n ns
levels_is ws (open_list o) n ns = open_is n ns
levels_is ws (open_paren o) n ns = open_is n ns
levels_is ws (open_call o) n ns = open_is n ns
levels_is ws (close_struct o) n ns = close_is n ns
levels_is ws (close_list o) n ns = close_is n ns
levels_is ws (close_paren o) n ns = close_is n ns
levels_is ws (comma o) n ns = state_is 0 (base ns) ns (omega arith)
levels_is ws (nl o) n ns = state_is 0 (base ns) ns (omega arith)
levels_is ws (colon o) n ns = colon_is (is_short ws) (short_colon (before_of ws)) n ns (short_is ws)
levels_is ws (relation atoms.less o) n ns = refl
levels_is ws (relation atoms.at_most o) n ns = refl
levels_is ws (relation atoms.more o) n ns = refl
levels_is ws (relation atoms.at_least o) n ns = refl
levels_is ws w n ns = refl

-- ---- the bottom level stays

abbrev IsFilled : List ℕ → Type 0
IsFilled [] = ⊥
IsFilled (n ∷ ns) = Unit {0}

closed_filled : (n : ℕ) (ns : List ℕ) → IsFilled (closed (n ∷ ns))
closed_filled n [] = tt
closed_filled n (m ∷ ns) = tt

counted_filled : (b : Bool) (n : ℕ) (ns : List ℕ) → IsFilled (counted_if b (n ∷ ns))
counted_filled true n ns = tt
counted_filled false n ns = tt

filled : (ws : Words) (w : Word) (n : ℕ) (ns : List ℕ) → IsFilled (behind ws w (n ∷ ns))
filled ws (close_struct o) n ns = closed_filled n ns
filled ws (close_list o) n ns = closed_filled n ns
filled ws (close_paren o) n ns = closed_filled n ns
filled ws (colon o) n ns = counted_filled (is_short ws) n ns
filled ws w n ns = tt

-- ---- the nesting

counted_is : (ws : Words) (ns : List ℕ) (ts : Words) → IsFilled ns → counted_from (before_of ws) (state ns) ts ≡ nesting_from ws ns ts
counted_is ws ns [] h = state_nesting ns
counted_is ws (n ∷ ns) (w ∷ ts) h = ap (λ m. max m (counted_from (before_of (w ∷ ws)) (levels_next (before_of ws) (word_kind w) (state (n ∷ ns))) ts)) (state_nesting (n ∷ ns)) ∙ ap (λ l. max (nesting_at (n ∷ ns)) (counted_from (before_of (w ∷ ws)) l ts)) (levels_is ws w n ns) ∙ ap (max (nesting_at (n ∷ ns))) (counted_is (w ∷ ws) (behind ws w (n ∷ ns)) ts (filled ws w n ns))
counted_is ws [] (w ∷ ts) h = absurd h

-- from the start, what the code counts is the nesting
pub counted_nesting : (ts : Words) → counted_from before.Other (record { nested = 0; level = 0; outer = [] }) ts ≡ nesting_from [] (0 ∷ []) ts
counted_nesting ts = counted_is [] (0 ∷ []) ts tt
