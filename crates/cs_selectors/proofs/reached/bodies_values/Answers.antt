use Rattle.std.proofs.Common.{map, refl, sym, ap, ◌∙◌}
use Rattle.std.proofs.lemmas.List.{take_all}
use Rattle.std.proofs.lemmas.Simd.{map-map}
use Rattle.cs_plain.specs.Bodies.{body_view}
use Rattle.cs_plain.proofs.Walks.{map_pushed}
use Rattle.cs_selectors.specs.Checks.{tree_at}
use Rattle.cs_selectors.proofs.reached.bodies_values.Goals as goal

pub loop-body-preserved : goal.loop-body-preserved
loop-body-preserved c =
    map_pushed (λ b. (body_view b).value) tree_at c.args.bodies.now c.loop-body.body-index c.body-item.result c.loop-body-test.true c.body-item.is _ _ _ c.in_ok-push.ensures.items c.loop-body.invariant refl

pub returns : goal.returns
returns c =
    let xs = c.args.bodies.now in
    c.loop-body.invariant ∙ ap (map (λ b. (body_view b).value)) (take_all c.loop-body.body-index xs c.loop-body-test.false) ∙ sym (map-map (λ b. b.value) body_view xs)
