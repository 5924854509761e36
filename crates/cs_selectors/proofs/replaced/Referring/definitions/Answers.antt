use Rattle.std.proofs.Common.{map, sym, ap, ◌∙◌}
use Rattle.std.proofs.lemmas.List.{take_all}
use Rattle.std.proofs.lemmas.Simd.{map-map}
use Rattle.cs_grammar.specs.View.{definition_view}
use Rattle.cs_plain.specs.Selecting.{referring_definition}
use Rattle.cs_plain.proofs.Walks.{map_pushed}
use Rattle.cs_selectors.proofs.replaced.Referring.definitions.Goals as goal

pub loop-definition-preserved : goal.loop-definition-preserved
loop-definition-preserved c by tells =
    map_pushed (λ d. referring_definition by (definition_view d)) definition_view c.args.definitions.now c.loop-definition.definition-index c.definition-item.result c.loop-definition-test.true c.definition-item.is _ _ _ c.in_ok-push.ensures.items (c.loop-definition.invariant by tells) (c.in_ok-definition.ensures by tells)

pub returns : goal.returns
returns c by tells =
    let xs = c.args.definitions.now in
    c.loop-definition.invariant by tells ∙ ap (map (λ d. referring_definition by (definition_view d))) (take_all c.loop-definition.definition-index xs c.loop-definition-test.false) ∙ sym (map-map (referring_definition by) definition_view xs)
