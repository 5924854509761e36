use Rattle.std.proofs.Common.{◌≡◌, ℕ, List, map, take}
use Rattle.cs_grammar.specs.Tree.{Selector}
use Rattle.cs_grammar.specs.View.{definition_view}
use Rattle.cs_plain.specs.Selecting.{referring_definition}
use Rattle.cs_selectors.specs.Checks.{TellsNames}
use Rattle.cs_selectors.proofs.replaced.Referring.definitions.Given as goal

abbrev pub invariant-loop-definition : goal.invariant-loop-definition
invariant-loop-definition l = (by : List ℕ → List Selector → List ℕ) → TellsNames l.self.giving.now by → map definition_view l.referring.items ≡ map (λ d. referring_definition by (definition_view d)) (take l.definition-index l.definitions)
