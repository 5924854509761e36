use Rattle.std.proofs.Common.{◌≡◌, ℕ, Bool, List, map, take}
use Rattle.cs_grammar.specs.View.{definition_view}
use Rattle.cs_defaults.specs.Unmarked.{unmarked_definition}
use Rattle.cs_defaults.specs.Checks.{TellsHanding}
use Rattle.cs_defaults.proofs.unmarked.Unmarking.unmarked_definitions.Given as goal

abbrev pub invariant-loop-definition : goal.invariant-loop-definition
invariant-loop-definition l = (has : List ℕ → Bool) → TellsHanding l.self.handing.now has → map definition_view l.unmarked.items ≡ map (λ d. unmarked_definition has (definition_view d)) (take l.definition-index l.definitions)
