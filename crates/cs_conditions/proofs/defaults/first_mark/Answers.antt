use Rattle.std.proofs.Common.{rules, ◌≡◌, ◌+◌, drop, sym, ap, ◌∙◌}
use Rattle.cs_grammar.specs.View.{expr_view, exprs_view}
use Rattle.cs_grammar.specs.declared.ast.Expr as Exprs
use Rattle.cs_conditions.specs.Defaults.{first_mark, or_behind}
use Rattle.cs_conditions.proofs.Walks.{at_place, drop_all}
use Rattle.cs_conditions.proofs.defaults.first_mark.Goals as goal

pub loop-operand-preserved : goal.loop-operand-preserved
loop-operand-preserved c =
    let xs = c.args.operands.now in
    let i = c.loop-operand.operand-index in
    let x = c.operand-item.result in
    let rest = first_mark (exprs_view (drop (i + 1) xs)) in
    let here : or_behind (expr_view x) rest ≡ rest = search (rules, Exprs.the_lemmas) in
    c.loop-operand.invariant ∙ ap (λ es. first_mark (exprs_view es)) (at_place xs i x c.loop-operand-test.true c.operand-item.is) ∙ here

pub returns : goal.returns
returns c =
    let xs = c.args.operands.now in
    sym (c.loop-operand.invariant ∙ ap (λ es. first_mark (exprs_view es)) (drop_all xs c.loop-operand.operand-index c.loop-operand-test.false))
