use Rattle.std.proofs.Common.{ℕ, List, ◌+◌, ◌-◌, length, take, drop, sym, subst, arith}
use Rattle.cs_grammar.specs.declared.token.Sort.TheVariants as sorts
use Rattle.cs_grammar.specs.Cut.{Begins}
use Rattle.cs_lexer.specs.Pieces.{Edges}
use Rattle.cs_lexer.proofs.ByteClasses.{opened}
use Rattle.cs_lexer.proofs.Names.{hidden_name_case, hidden_definition_case, bottom_case, top_case}
use Rattle.cs_lexer.proofs.piece.underscore_piece.Goals as goal

abbrev rest : List ℕ → List ℕ
rest bs = take (length bs - 1) (drop 1 bs)

pub returns-then-begins_name : goal.returns-then-begins_name
returns-then-begins_name c =
    let n = c.name_len.result + 1 in
    subst (λ t. Begins c.args.line t n sorts.Hidden × Edges t n) (opened c.args.bytes.now 95 c.requires.some c.requires.underscore) (hidden_name_case c.args.line (rest c.args.bytes.now) (sym c.if-begins_name.ensures) c.name_len.result c.name_len.ensures)

pub overflow_add-result : goal.overflow_add-result
overflow_add-result c =
    let n = c.name_len.result + 1 in
    let h = subst (λ t. Begins c.args.line t n sorts.Hidden × Edges t n) (opened c.args.bytes.now 95 c.requires.some c.requires.underscore) (hidden_name_case c.args.line (rest c.args.bytes.now) (sym c.if-begins_name.ensures) c.name_len.result c.name_len.ensures) in
    omega (arith, h.1.within)

pub returns-then-begins_definition_name : goal.returns-then-begins_definition_name
returns-then-begins_definition_name c =
    let n = c.name_len-then-begins_definition_name.result + 2 in
    subst (λ t. Begins c.args.line t n sorts.Hidden × Edges t n) (opened c.args.bytes.now 95 c.requires.some c.requires.underscore) (hidden_definition_case c.args.line (rest c.args.bytes.now) (sym c.if-begins_definition_name.ensures) c.name_len-then-begins_definition_name.result c.name_len-then-begins_definition_name.ensures)

pub overflow_add-result-then-begins_definition_name : goal.overflow_add-result-then-begins_definition_name
overflow_add-result-then-begins_definition_name c =
    let n = c.name_len-then-begins_definition_name.result + 2 in
    let h = subst (λ t. Begins c.args.line t n sorts.Hidden × Edges t n) (opened c.args.bytes.now 95 c.requires.some c.requires.underscore) (hidden_definition_case c.args.line (rest c.args.bytes.now) (sym c.if-begins_definition_name.ensures) c.name_len-then-begins_definition_name.result c.name_len-then-begins_definition_name.ensures) in
    omega (arith, h.1.within)

pub returns-then-begins_bottom_rest : goal.returns-then-begins_bottom_rest
returns-then-begins_bottom_rest c = subst (λ t. Begins c.args.line t 3 sorts.Bottom × Edges t 3) (opened c.args.bytes.now 95 c.requires.some c.requires.underscore) (bottom_case c.args.line (rest c.args.bytes.now) (sym c.if-begins_bottom_rest.ensures))

pub returns : goal.returns
returns c = subst (λ t. Begins c.args.line t 1 sorts.Top × Edges t 1) (opened c.args.bytes.now 95 c.requires.some c.requires.underscore) (top_case c.args.line (rest c.args.bytes.now) (sym c.if-begins_name.ensures) (sym c.if-begins_definition_name.ensures) (sym c.if-begins_bottom_rest.ensures))
