use Rattle.std.proofs.Common.{◌≡◌, drop}
use Rattle.std.specs.Prelude.{nat_lt}
use Rattle.cs_grammar.specs.View.{lexemes_view}
use Rattle.cs_grammar.specs.TokenWords.{words}
use Rattle.cs_syntax.specs.Nesting.{nesting}
use Rattle.cs_syntax.specs.Counting.{counted_from}
use Rattle.cs_syntax.specs.Left.{levels_of}
use Rattle.cs_syntax.proofs.parser.nesting.is_too_nested.Given as goal

abbrev pub invariant-loop-token : goal.invariant-loop-token
invariant-loop-token l = nat_lt 28 (counted_from l.before (levels_of l.levels) (words (lexemes_view (drop l.token-index l.tokens)))) ≡ nat_lt 28 (nesting (words (lexemes_view l.tokens)))
