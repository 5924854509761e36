use Rattle.std.proofs.Common.{sym, ◌∙◌, arith}
use Rattle.cs_lexer.proofs.Numbers.{separated_on, separated_off, separated_out}
use Rattle.cs_lexer.proofs.numeral.is_separated.Goals as goal

pub returns-then-not-begins_piece : goal.returns-then-not-begins_piece
returns-then-not-begins_piece c = sym (separated_off c.args.text.now c.loop-i.i (omega arith) (sym c.if-not-begins_piece.ensures)) ∙ c.loop-i.invariant

pub loop-i-preserved : goal.loop-i-preserved
loop-i-preserved c = sym (separated_on c.args.text.now c.loop-i.i (omega arith) (sym c.if-not-begins_piece.ensures)) ∙ c.loop-i.invariant

pub returns : goal.returns
returns c = sym (separated_out c.args.text.now c.loop-i.i (omega arith)) ∙ c.loop-i.invariant
