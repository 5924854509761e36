use Rattle.std.proofs.Common.{map, sym, ap, ◌∙◌}
use Rattle.std.proofs.lemmas.List.{take_all}
use Rattle.std.proofs.lemmas.Simd.{map-map}
use Rattle.cs_grammar.specs.View.{definition_view}
use Rattle.cs_plain.specs.Placed.{placed_definition}
use Rattle.cs_plain.proofs.placed.Placing.placed_definitions.Goals as goal

pub returns : goal.returns
returns c value hides told =
    let xs = c.args.definitions.now in
    c.loop-definition.invariant value hides told ∙ ap (map (λ d. placed_definition value hides (definition_view d))) (take_all c.loop-definition.definition-index xs c.loop-definition-test.false)
    ∙ sym (map-map (placed_definition value hides) definition_view xs)
