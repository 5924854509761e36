use Rattle.std.proofs.Common.{reverse, sym, ap, ◌∙◌}
use Rattle.std.specs.Prelude.{nat_lt}
use Rattle.cs_syntax.specs.declared.parser.nesting.PrecedingToken.TheVariants as before
use Rattle.cs_grammar.specs.View.{lexemes_view}
use Rattle.cs_grammar.specs.TokenWords.{words}
use Rattle.cs_syntax.specs.Counting.{counted_from}
use Rattle.cs_syntax.specs.Left.{levels_of}
use Rattle.cs_syntax.proofs.Depths.{high_stops}
use Rattle.cs_syntax.proofs.NestingCounts.{counted_nesting}
use Rattle.cs_syntax.proofs.parser.nesting.is_too_nested.Goals as goal

pub loop-token-init : goal.loop-token-init
loop-token-init c = ap (λ ns. nat_lt 28 (counted_from before.Other (record { nested = 0; level = 0; outer = reverse ns }) (words (lexemes_view c.args.tokens.now)))) c.new.ensures.items ∙ ap (nat_lt 28) (counted_nesting (words (lexemes_view c.args.tokens.now)))

pub returns-then-levels-gt-MOST_NESTED : goal.returns-then-levels-gt-MOST_NESTED
returns-then-levels-gt-MOST_NESTED c = sym (high_stops c.loop-token.before (levels_of c.loop-token.levels) _ c.if-levels-gt-MOST_NESTED.true) ∙ c.loop-token.invariant
