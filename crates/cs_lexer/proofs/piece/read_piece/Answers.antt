use Rattle.std.proofs.Common.{sym}
use Rattle.cs_lexer.proofs.Names.{name_case}
use Rattle.cs_lexer.proofs.Fronts.{mark_case, bad_mark_case}
use Rattle.cs_lexer.proofs.piece.read_piece.Goals as goal

pub returns-then-is_letter : goal.returns-then-is_letter
returns-then-is_letter c = name_case c.args.line c.args.bytes.now c.requires (sym c.if-is_letter.ensures) c.name_len.result c.name_len.ensures

pub returns-in-Some : goal.returns-in-Some
returns-in-Some c = mark_case c.args.line c.args.bytes.now c.requires (sym c.if-is_letter.ensures) (sym c.if-is_digit.ensures) c.if-first-eq35.false c.if-first-eq95.false c.if-first-eq34.false (sym c.if-begins_comment.ensures) c.in-Some.sort c.in-Some.len c.in-Some.ensures

pub returns-in-None : goal.returns-in-None
returns-in-None c = bad_mark_case c.args.line c.args.bytes.now c.requires (sym c.if-is_letter.ensures) (sym c.if-is_digit.ensures) c.if-first-eq35.false c.if-first-eq95.false c.if-first-eq34.false (sym c.if-begins_comment.ensures) c.in-None.ensures (sym c.if-is_space.ensures) c.if-first-eq10.false
