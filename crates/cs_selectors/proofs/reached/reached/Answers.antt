use Rattle.std.proofs.Common.{◌+◌, map, drop, sym, ap, ap₂, subst, ◌∙◌}
use Rattle.std.proofs.lemmas.Result.{err_from_is_err_and}
use Rattle.cs_grammar.specs.View.{selector_view}
use Rattle.cs_plain.specs.Bodies.{body_view}
use Rattle.cs_plain.proofs.Walks.{at_place}
use Rattle.cs_selectors.specs.Checks.{EndsAt, tree_at}
use Rattle.cs_selectors.specs.Reached.{lack_here, texts, step}
use Rattle.cs_selectors.proofs.Found.{reached_more, reached_not}
use Rattle.cs_selectors.proofs.reached.reached.Goals as goal

pub returns-in_err-values-2 : goal.returns-in_err-values-2
returns-in_err-values-2 c =
    let ls = c.args.labels.now in
    let i = c.loop-label.label-index in
    let x = c.label-item.result in
    let es = map tree_at c.loop-label.values.items in
    let cut = ap (λ ys. texts (map selector_view ys)) (at_place ls i x c.loop-label-test.true c.label-item.is) in
    let same = ap₂ (λ t ys. lack_here t (map tree_at ys)) c.deref.ensures c.deref-in-loop-label.ensures.value in
    let p = err_from_is_err_and c.from_residual-in_err-values-2.result c.from_residual-in_err-values-2.ensures.1 in
    rw (p.1, p.2) (reached_not (map (λ b. b.value) (map body_view c.args.bodies.now)) (texts (map selector_view ls)) es (texts (map selector_view (drop i ls))) _ (texts (map selector_view (drop (i + 1) ls))) cut c.loop-label.invariant.0 c.in_err-values-2.field-0.0
    (subst (λ o. EndsAt c.in_err-values-2.field-0.0 o) same c.in_err-values-2.ensures))

pub loop-label-preserved : goal.loop-label-preserved
loop-label-preserved c =
    let ls = c.args.labels.now in
    let i = c.loop-label.label-index in
    let x = c.label-item.result in
    let es = map tree_at c.loop-label.values.items in
    let cut = ap (λ ys. texts (map selector_view ys)) (at_place ls i x c.loop-label-test.true c.label-item.is) in
    let same = ap₂ (λ t ys. lack_here t (map tree_at ys)) c.deref.ensures c.deref-in-loop-label.ensures.value in
    let next = ap₂ (λ t ys. step t (map tree_at ys)) c.deref.ensures c.deref-in-loop-label.ensures.value in
    reached_more (map (λ b. b.value) (map body_view c.args.bodies.now)) (texts (map selector_view ls)) es (texts (map selector_view (drop i ls))) _ (texts (map selector_view (drop (i + 1) ls))) cut c.loop-label.invariant.0 (map tree_at c.in_ok-values-2.values.items)
    c.loop-label.invariant.1 (sym same ∙ c.in_ok-values-2.ensures.0) (c.in_ok-values-2.ensures.1 ∙ next)
