use Rattle.std.proofs.Common.{map, sym, ap, ◌∙◌}
use Rattle.std.proofs.lemmas.List.{take_all}
use Rattle.std.proofs.lemmas.Simd.{map-map}
use Rattle.cs_grammar.specs.View.{definition_view}
use Rattle.cs_conditions.specs.Chosen.{chosen_definition}
use Rattle.cs_conditions.proofs.Walks.{map_pushed}
use Rattle.cs_conditions.proofs.choice.Choosing.chosen_definitions.Goals as goal

pub loop-definition-preserved : goal.loop-definition-preserved
loop-definition-preserved c known tells = map_pushed (λ d. chosen_definition known (definition_view d)) definition_view c.args.definitions.now c.loop-definition.definition-index c.definition-item.result c.loop-definition-test.true c.definition-item.is _ _ _ c.in_ok-push.ensures.items (c.loop-definition.invariant known tells) (c.in_ok-chosen_definition.ensures known tells)

pub returns : goal.returns
returns c known tells =
    let xs = c.args.definitions.now in
    c.loop-definition.invariant known tells
    ∙ ap (map (λ d. chosen_definition known (definition_view d))) (take_all c.loop-definition.definition-index xs c.loop-definition-test.false)
    ∙ sym (map-map (chosen_definition known) definition_view xs)
