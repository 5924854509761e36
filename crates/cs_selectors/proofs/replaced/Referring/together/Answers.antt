use Rattle.std.proofs.Common.{◌≡◌, sym, ap, subst, ◌∙◌, IfOk}
use Rattle.cs_grammar.specs.Tree.{conjunction}
use Rattle.cs_grammar.specs.View.{expr_view}
use Rattle.cs_grammar.proofs.Views.{view-And}
use Rattle.cs_plain.specs.Selecting.{referring}
use Rattle.cs_plain.proofs.Walks.{at_place}
use Rattle.cs_selectors.proofs.Parts.{one_value, several_values}
use Rattle.cs_selectors.proofs.replaced.Referring.together.Goals as goal

pub returns-in-len1 : goal.returns-in-len1
returns-in-len1 c by tells =
    let xs = c.args.values.now in
    let x = c.value-item.result in
    let is = ap (referring by) (one_value xs x c.in-len1.len_below (at_place xs 0 x c.in-len1.len_at_least c.value-item.is)) in
    subst (λ t. IfOk c.referring.result (λ e. expr_view e ≡ t)) (sym is) (c.referring.ensures by tells)

pub returns-in_ok-operands-in_default : goal.returns-in_ok-operands-in_default
returns-in_ok-operands-in_default c by tells =
    view-And c.in_ok-operands-in_default.field-0 ∙ ap conjunction (c.in_ok-operands-in_default.ensures by tells) ∙ ap (referring by) (sym (several_values c.args.values.now c.in_default.len_at_least))
