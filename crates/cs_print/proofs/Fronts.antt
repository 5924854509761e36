-- Texts that begin a text, and how that is cut.
use Rattle.std.proofs.Common.{◌≡◌, ℕ, ◌+◌, List, [], ◌∷◌, ◌++◌, length, take, drop, Bool, true, refl, sym, ap, subst, append_assoc, arith}
use Rattle.std.specs.Prelude.{◌==◌, ◌||◌, not}
use Rattle.cs_grammar.specs.declared.token.Sort.{Sort}
use Rattle.cs_grammar.specs.declared.line.LineState.{LineState}
use Rattle.cs_grammar.specs.Cut.{Begins, Lexeme, lexeme, Cut, token, line_after}
use Rattle.cs_grammar.specs.Words.{Word, Words}
use Rattle.cs_grammar.specs.TokenWords.{word, words}

-- a byte that ends each name and each integer before it: a blank, the end of a line, `,`, `)`, `]`, `}`, `:`, `?` and `!`
abbrev pub is_stop : ℕ → Bool
is_stop x = x == 32 || x == 10 || x == 44 || x == 41 || x == 93 || x == 125 || x == 58 || x == 63 || x == 33

-- a byte that makes no mark longer: not `=`, `~`, `&`, `|` and `.`
abbrev pub is_plain : ℕ → Bool
is_plain x = not (x == 61 || x == 126 || x == 38 || x == 124 || x == 46)

-- what a front asks of the byte behind it
pub data Asks : Type 0 where
  nothing a_plain a_stop : Asks

abbrev pub Answers : Asks → ℕ → Type 0
Answers nothing x = Unit {0}
Answers a_plain x = is_plain x ≡ true
Answers a_stop x = is_stop x ≡ true

-- at the end of a text nothing is asked
abbrev pub Follows : Asks → List ℕ → Type 0
Follows nothing rest = Unit {0}
Follows a_plain [] = Unit {0}
Follows a_plain (x ∷ xs) = is_plain x ≡ true
Follows a_stop [] = ⊥
Follows a_stop (x ∷ xs) = is_stop x ≡ true

-- the tokens of a text, and what their words are before those of its rest
pub record CutBefore (xs : List ℕ) (o : ℕ) (l : LineState) (P : Words → Words → Type 0) (ks : List Lexeme) : Type 0 where
  pub lexemes : List Lexeme
  pub cut : Cut xs o l lexemes
  pub are : P (words lexemes) (words ks)

-- Before any rest, the bytes xs, behind a token that leaves the line as l, are cut into the words P, and leave the line as m.
pub record Front (a : Asks) (xs : List ℕ) (l m : LineState) (P : Words → Words → Type 0) : Type 0 where
  pub before : (o : ℕ) (rest : List ℕ) (ks : List Lexeme) → Follows a rest → Cut rest (o + length xs) m ks → CutBefore (xs ++ rest) o l P ks

-- ---- one front behind another

abbrev pub Then : (Words → Words → Type 0) → (Words → Words → Type 0) → Words → Words → Type 0
Then P Q ws us = (vs : Words) × P ws vs × Q vs us

length_append : (xs ys : List ℕ) → length (xs ++ ys) ≡ length xs + length ys
length_append [] ys = omega arith
length_append (x ∷ xs) ys = omega (arith, length_append xs ys)

-- what is asked of a rest is what the first front asks of what is behind it
abbrev pub Links : Asks → Asks → List ℕ → Type 0
Links a b ys = (rest : List ℕ) → Follows b rest → Follows a (ys ++ rest)

pub behind : {a b : Asks} {xs ys : List ℕ} {l m n : LineState} {P Q : Words → Words → Type 0} → Links a b ys → Front a xs l m P → Front b ys m n Q → Front b (xs ++ ys) l n (Then P Q)
behind {a} {b} {xs} {ys} {l} {m} {n} {P} {Q} link f g = record { before = both }
  where
    both : (o : ℕ) (rest : List ℕ) (ks : List Lexeme) → Follows b rest → Cut rest (o + length (xs ++ ys)) n ks → CutBefore ((xs ++ ys) ++ rest) o l (Then P Q) ks
    both o rest ks ok cut =
        let at : o + length (xs ++ ys) ≡ (o + length xs) + length ys = omega (arith, length_append xs ys) in
        let second = g.before (o + length xs) rest ks ok (subst (λ k. Cut rest k n ks) at cut) in
        let first = f.before o (ys ++ rest) second.lexemes (link rest ok) second.cut in
        subst (λ t. CutBefore t o l (Then P Q) ks) (sym (append_assoc xs ys rest)) (record { lexemes = first.lexemes; cut = first.cut; are = (words second.lexemes, first.are, second.are) })

-- the same words in other terms
pub read : {a : Asks} {xs : List ℕ} {l m : LineState} {P : Words → Words → Type 0} (Q : Words → Words → Type 0) → ((ws us : Words) → P ws us → Q ws us) → Front a xs l m P → Front a xs l m Q
read Q k f = record { before = λ o rest ks ok cut. let c = f.before o rest ks ok cut in record { lexemes = c.lexemes; cut = c.cut; are = k (words c.lexemes) (words ks) c.are } }

-- a front that asks nothing, as one that asks something
pub asked : {a : Asks} {xs : List ℕ} {l m : LineState} {P : Words → Words → Type 0} → Front nothing xs l m P → Front a xs l m P
asked f = record { before = λ o rest ks ok cut. f.before o rest ks tt cut }

abbrev pub Same : Words → Words → Type 0
Same ws us = ws ≡ us

pub empty : {a : Asks} {l : LineState} → Front a [] l l Same
empty {a} {l} = record { before = λ o rest ks ok cut. record { lexemes = ks; cut = subst (λ k. Cut rest k l ks) (omega arith) cut; are = refl } }

-- ---- tokens

-- one word, wherever it stands
abbrev pub One : (ℕ → Word) → Words → Words → Type 0
One w ws us = (o : ℕ) × (ws ≡ w o ∷ us)

take_front : (xs rest : List ℕ) → take (length xs) (xs ++ rest) ≡ xs
take_front [] rest = refl
take_front (x ∷ xs) rest = ap (λ ys. x ∷ ys) (take_front xs rest)

drop_front : (xs rest : List ℕ) → drop (length xs) (xs ++ rest) ≡ rest
drop_front [] rest = refl
drop_front (x ∷ xs) rest = drop_front xs rest

pub token_front : (a : Asks) (xs : List ℕ) (l m : LineState) (s : Sort) (w : ℕ → Word) → line_after s xs ≡ m → ((o : ℕ) → word (lexeme s xs o) ≡ w o) → ((rest : List ℕ) → Follows a rest → Begins l (xs ++ rest) (length xs) s) → Front a xs l m (One w)
token_front a xs l m s w after is begins = record {
  before = λ o rest ks ok cut.
      let left : Cut (drop (length xs) (xs ++ rest)) (o + length xs) (line_after s (take (length xs) (xs ++ rest))) ks =
      rw (drop_front xs rest, take_front xs rest, after) cut in
      let whole = token (begins rest ok) left in
      record { lexemes = lexeme s (take (length xs) (xs ++ rest)) o ∷ ks; cut = whole; are = (o, rw (take_front xs rest) (ap (λ x. x ∷ words ks) (is o))) };
}
