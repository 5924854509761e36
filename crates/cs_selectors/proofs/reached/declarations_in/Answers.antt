use Rattle.std.proofs.Common.{◌++◌, map, refl, sym, ap, ◌∙◌}
use Rattle.std.proofs.lemmas.List.{take_all}
use Rattle.cs_plain.proofs.Folds.{gathered_more}
use Rattle.cs_selectors.specs.Checks.{tree_at}
use Rattle.cs_selectors.specs.Reached.{declarations_in, declarations_within}
use Rattle.cs_selectors.proofs.reached.declarations_in.Goals as goal

pub loop-value-preserved : goal.loop-value-preserved
loop-value-preserved c =
    let xs = c.args.values.now in
    let s = c.args.label.now in
    let x = c.value-item.result in
    let more = gathered_more (λ ys. declarations_in s (map tree_at ys)) (λ e. declarations_within s (tree_at e)) refl (λ e es. refl) xs c.loop-value.value-index x c.loop-value-test.true c.value-item.is in
    c.in_ok-add_within.ensures ∙ ap (λ fs. fs ++ declarations_within s (tree_at x)) c.loop-value.invariant ∙ sym more

pub returns : goal.returns
returns c =
    c.loop-value.invariant ∙ ap (λ ys. declarations_in c.args.label.now (map tree_at ys)) (take_all c.loop-value.value-index c.args.values.now c.loop-value-test.false)
