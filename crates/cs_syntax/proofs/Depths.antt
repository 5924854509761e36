-- The nesting of tokens, one by one.
use Rattle.std.proofs.Common.{◌≡◌, ℕ, ◌<◌, [], ◌∷◌, true, arith}
use Rattle.std.proofs.lemmas.Bool.Decides.{nat_tests}
use Rattle.std.specs.Prelude.{max, nat_lt}
use Rattle.cs_syntax.specs.declared.parser.nesting.PrecedingToken.{PrecedingToken}
use Rattle.cs_grammar.specs.Words.{Words}
use Rattle.cs_syntax.specs.Counting.{NestingState, counted_from}

max_high : (m n : ℕ) → 28 < m → nat_lt 28 (max m n) ≡ true
max_high m n h = grind (arith, nat_tests)

high_end : (n : ℕ) → 28 < n → nat_lt 28 n ≡ true
high_end n h = grind (arith, nat_tests)

-- a word at which the nesting is higher than 28 decides
pub high_stops : (b : PrecedingToken) (l : NestingState) (ts : Words) → 28 < l.nested → nat_lt 28 (counted_from b l ts) ≡ true
high_stops b l [] h = high_end l.nested h
high_stops b l (w ∷ ts) h = max_high l.nested _ h
