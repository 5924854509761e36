use Rattle.std.proofs.Common.{◌-◌, [], length, take, drop, sym, ◌∙◌, arith}
use Rattle.cs_grammar.specs.declared.attribute.Opened.TheVariants as opened
use Rattle.cs_lexer.proofs.Attributes.{some_within, open_within}
use Rattle.cs_lexer.proofs.attribute.parenthesis_len.Goals as goal

pub overflow_add-result : goal.overflow_add-result
overflow_add-result c =
    let bs = c.args.bytes.now in
    let rest = take (length bs - 1) (drop 1 bs) in
    omega (arith, some_within _ c.in-Some.len (length rest) (open_within rest opened.Paren []) (sym c.in_ok-len-in-40.ensures ∙ c.in-Some.is))
