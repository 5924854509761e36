use Rattle.std.proofs.Common.{◌≡◌, ℕ, Bool, List, Option, map, take}
use Rattle.cs_grammar.specs.Tree.{Tree}
use Rattle.cs_grammar.specs.View.{definition_view}
use Rattle.cs_plain.specs.Checks.{TellsPlacing}
use Rattle.cs_plain.specs.Placed.{placed_definition}
use Rattle.cs_plain.proofs.placed.Placing.placed_definitions.Given as goal

abbrev pub invariant-loop-definition : goal.invariant-loop-definition
invariant-loop-definition l = (value : List ℕ → Option Tree) (hides : List ℕ → Bool) → TellsPlacing l.self value hides → map definition_view l.placed.items ≡ map (λ d. placed_definition value hides (definition_view d)) (take l.definition-index l.definitions)
