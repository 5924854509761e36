use Rattle.std.proofs.Common.{◌+◌, ◌-◌, length, take, drop, sym, ◌∙◌, arith}
use Rattle.cs_lexer.proofs.Attributes.{some_within, head_within, parenthesis_within}
use Rattle.cs_lexer.proofs.attribute.attribute_len.Goals as goal

pub overflow_add-head : goal.overflow_add-head
overflow_add-head c = omega (arith, head_within c.args.bytes.now c.name_len-head.result (sym c.if-not-begins_attribute.ensures) c.name_len-head.ensures)

pub slice_bounds-parenthesis_len-count : goal.slice_bounds-parenthesis_len-count
slice_bounds-parenthesis_len-count c = head_within c.args.bytes.now c.name_len-head.result (sym c.if-not-begins_attribute.ensures) c.name_len-head.ensures

pub slice_bounds-parenthesis_len-start : goal.slice_bounds-parenthesis_len-start
slice_bounds-parenthesis_len-start c = slice_bounds-parenthesis_len-count c

pub overflow_add-result : goal.overflow_add-result
overflow_add-result c =
    let bs = c.args.bytes.now in
    let head = c.name_len-head.result + 1 in
    let rest = take (length bs - head) (drop head bs) in
    let short = some_within _ c.in-Some.len (length rest) (parenthesis_within rest) (sym c.in_ok-len.ensures ∙ c.in-Some.is) in
    omega (arith, head_within bs c.name_len-head.result (sym c.if-not-begins_attribute.ensures) c.name_len-head.ensures, short)
