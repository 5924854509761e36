use Rattle.std.proofs.Common.{◌≡◌, map, take}
use Rattle.cs_grammar.specs.View.{definition_view}
use Rattle.cs_conditions.specs.Chosen.{chosen_definition}
use Rattle.cs_conditions.specs.Checks.{TellsKnown}
use Rattle.cs_conditions.specs.Known.{Knowledge}
use Rattle.cs_conditions.proofs.choice.Choosing.chosen_definitions.Given as goal

abbrev pub invariant-loop-definition : goal.invariant-loop-definition
invariant-loop-definition l = (known : Knowledge) → TellsKnown l.self.known.now known → map definition_view l.chosen.items ≡ map (λ d. chosen_definition known (definition_view d)) (take l.definition-index l.definitions)
