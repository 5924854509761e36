-- `close` and its parenthesis, where they begin.
use Rattle.std.proofs.Common.{◌≡◌, ℕ, true, false, List, [], ◌∷◌, drop, refl}
use Rattle.std.proofs.lemmas.Bool.{and_parts}
use Rattle.std.proofs.lemmas.Slice.Eq.{bytes_eq-Decides}
use Rattle.std.specs.Prelude.{codes}
use Rattle.cs_grammar.specs.declared.kind.Kind.TheVariants as kinds
use Rattle.cs_grammar.specs.Atom as atoms
use Rattle.cs_grammar.specs.Spells.{is_reserved, is_close}
use Rattle.cs_grammar.specs.Words.{Word, Words, name, open_call, relation}
use Rattle.cs_syntax.specs.Reading.{begins_with, begins_shut}

pub data Shut : Words → Words → Type 0 where
  is_shut : {s : List ℕ} {o p : ℕ} {r : Words} → is_close s ≡ true → Shut (name s o ∷ open_call p ∷ r) r

call_of : (s : List ℕ) (o : ℕ) (w : Word) (ts : Words) → is_close s ≡ true → begins_with kinds.OpenCall (w ∷ ts) ≡ true → Shut (name s o ∷ w ∷ ts) ts
call_of s o (open_call p) ts h k = is_shut h
call_of s o (relation atoms.less p) ts h k = absurd cc
call_of s o (relation atoms.at_most p) ts h k = absurd cc
call_of s o (relation atoms.more p) ts h k = absurd cc
call_of s o (relation atoms.at_least p) ts h k = absurd cc
call_of s o w ts h k = absurd cc

pub shut_of : (ts : Words) → begins_shut ts ≡ true → Shut ts (drop 1 (drop 1 ts))
shut_of (name s o ∷ w ∷ ts) h = let both = and_parts (is_close s) (begins_with kinds.OpenCall (w ∷ ts)) h in call_of s o w ts both.0 both.1
shut_of (name s o ∷ []) h = let none : false ≡ true = (and_parts (is_close s) false h).1 in absurd cc
shut_of ts h = absurd cc

-- it is no name that can't be an operand
pub close_stands : (s : List ℕ) → is_close s ≡ true → is_reserved s ≡ false
close_stands s h = let same : s ≡ codes "close" = (bytes_eq-Decides s (codes "close")).0 h in rw same refl
