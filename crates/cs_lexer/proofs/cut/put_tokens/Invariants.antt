use Rattle.std.proofs.Common.{◌≤◌, ◌-◌, length}
use Rattle.cs_grammar.specs.View.{lexemes_view}
use Rattle.cs_lexer.proofs.Cutting.{Before}
use Rattle.cs_lexer.proofs.cut.put_tokens.Given as goal

abbrev pub invariant-text : goal.invariant-text
invariant-text l = record { in_range : l.at ≤ length l.bytes; before : Before l.fn.profile l.bytes l.at l.line (lexemes_view l.tokens.items) }

abbrev pub decreases-text : goal.decreases-text
decreases-text l = length l.bytes - l.at
