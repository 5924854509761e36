use Rattle.std.proofs.Common.{◌<◌, length, arith}
use Rattle.cs_grammar.specs.Taken.{wide_lexeme}
use Rattle.cs_grammar.specs.View.{lexeme_view}
use Rattle.cs_syntax.proofs.TakenTokens.{resorted, all_changed}
use Rattle.cs_syntax.proofs.parser.profiles.take_wide.Goals as goal

pub loop-token-preserved : goal.loop-token-preserved
loop-token-preserved c =
    let l = c.loop-token in
    let within : l.token-index < length l.tokens = omega (arith, c.loop-token-test.true, l.auto.tokens) in
    resorted l.tokens c.args.tokens.now l.token-index _ _ within c.wide_sort-token.ensures l.invariant

pub returns : goal.returns
returns c =
    let l = c.loop-token in
    all_changed lexeme_view wide_lexeme l.tokens c.args.tokens.now l.token-index c.loop-token-test.false l.invariant
