use Rattle.std.proofs.Common.{map, sym, ap, ◌∙◌}
use Rattle.std.proofs.lemmas.List.{take_all}
use Rattle.std.proofs.lemmas.Simd.{map-map}
use Rattle.cs_grammar.specs.View.{expr_view, trees_of}
use Rattle.cs_plain.specs.Selecting.{referring}
use Rattle.cs_plain.proofs.Walks.{map_pushed}
use Rattle.cs_selectors.specs.Checks.{tree_at}
use Rattle.cs_selectors.specs.Selectors.{operand}
use Rattle.cs_selectors.proofs.Parts.{operands_referring}
use Rattle.cs_selectors.proofs.replaced.Referring.operands.Goals as goal

pub loop-value-preserved : goal.loop-value-preserved
loop-value-preserved c by tells =
    map_pushed (λ e. referring by (operand (tree_at e))) expr_view c.args.values.now c.loop-value.value-index c.value-item.result c.loop-value-test.true c.value-item.is _ _ _ c.in_ok-push.ensures.items (c.loop-value.invariant by tells) (c.in_ok-operand.ensures by tells)

pub returns : goal.returns
returns c by tells =
    let xs = c.args.values.now in
    let all = c.loop-value.invariant by tells ∙ ap (map (λ e. referring by (operand (tree_at e)))) (take_all c.loop-value.value-index xs c.loop-value-test.false) in
    ap trees_of (all ∙ sym (map-map (λ e. referring by (operand e)) tree_at xs)) ∙ operands_referring by (map tree_at xs)
