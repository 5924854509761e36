use Rattle.std.proofs.Common.{map, sym, ap, ◌∙◌}
use Rattle.std.proofs.lemmas.List.{take_all}
use Rattle.std.proofs.lemmas.Simd.{map-map}
use Rattle.cs_grammar.specs.View.{definition_view}
use Rattle.cs_defaults.specs.Unmarked.{unmarked_definition}
use Rattle.cs_defaults.proofs.Found.{map_pushed}
use Rattle.cs_defaults.proofs.unmarked.Unmarking.unmarked_definitions.Goals as goal

pub loop-definition-preserved : goal.loop-definition-preserved
loop-definition-preserved c has tells = map_pushed (λ d. unmarked_definition has (definition_view d)) definition_view c.args.definitions.now c.loop-definition.definition-index c.definition-item.result c.loop-definition-test.true c.definition-item.is _ _ _ c.in_ok-push.ensures.items (c.loop-definition.invariant has tells) (c.in_ok-unmarked_definition.ensures has tells)

pub returns : goal.returns
returns c has tells =
    let xs = c.args.definitions.now in
    c.loop-definition.invariant has tells
    ∙ ap (map (λ d. unmarked_definition has (definition_view d))) (take_all c.loop-definition.definition-index xs c.loop-definition-test.false)
    ∙ sym (map-map (unmarked_definition has) definition_view xs)
