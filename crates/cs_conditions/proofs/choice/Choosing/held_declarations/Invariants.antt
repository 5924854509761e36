use Rattle.std.proofs.Common.{◌≡◌, true, map, take}
use Rattle.cs_grammar.specs.Tree.{Declarations}
use Rattle.cs_grammar.specs.View.{declaration_view, condition_view, field_seen}
use Rattle.cs_conditions.specs.Checks.{TellsAsked}
use Rattle.cs_conditions.specs.Choice.{made_in}
use Rattle.cs_conditions.specs.Known.{Knowledge}
use Rattle.cs_conditions.proofs.choice.Choosing.held_declarations.Given as goal

abbrev pub invariant-loop-condition : goal.invariant-loop-condition
invariant-loop-condition l = (known : Knowledge) (all : Declarations) → TellsAsked l.table known all
    → map declaration_view l.held.items ≡ map (λ c. field_seen (made_in known all (condition_view c) true)) (take l.condition-index l.conditions)
