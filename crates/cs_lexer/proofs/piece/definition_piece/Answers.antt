use Rattle.std.proofs.Common.{sym, arith}
use Rattle.cs_lexer.proofs.Names.{definition_case, bad_definition_case}
use Rattle.cs_lexer.proofs.piece.definition_piece.Goals as goal

pub returns-then-not-begins_definition_name : goal.returns-then-not-begins_definition_name
returns-then-not-begins_definition_name c = bad_definition_case c.args.bytes.now c.requires.some c.requires.hash (sym c.if-not-begins_definition_name.ensures)

pub overflow_add-result : goal.overflow_add-result
overflow_add-result c =
    let d = definition_case c.args.line c.args.bytes.now (sym c.if-not-begins_definition_name.ensures) c.name_len.result c.name_len.ensures in
    omega (arith, d.1.within)

pub returns : goal.returns
returns c = definition_case c.args.line c.args.bytes.now (sym c.if-not-begins_definition_name.ensures) c.name_len.result c.name_len.ensures
