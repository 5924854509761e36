use Rattle.std.proofs.Common.{sym}
use Rattle.cs_lexer.proofs.Numbers.{number_case, large_number_case, bad_number_case}
use Rattle.cs_lexer.proofs.piece.number_piece.Goals as goal

pub returns-then-not-is_integer : goal.returns-then-not-is_integer
returns-then-not-is_integer c = bad_number_case c.args.bytes.now c.requires.some c.requires.digit c.run_len-len.result c.run_len-len.ensures (sym c.if-not-is_integer.ensures)

pub returns-then-is_too_large : goal.returns-then-is_too_large
returns-then-is_too_large c = (c.run_len-len.result, large_number_case c.args.line c.args.bytes.now c.requires.some c.requires.digit c.run_len-len.result c.run_len-len.ensures (sym c.if-not-is_integer.ensures) (sym c.if-is_too_large.ensures))

pub returns : goal.returns
returns c = number_case c.args.line c.args.bytes.now c.requires.some c.requires.digit c.run_len-len.result c.run_len-len.ensures (sym c.if-not-is_integer.ensures) (sym c.if-is_too_large.ensures)
