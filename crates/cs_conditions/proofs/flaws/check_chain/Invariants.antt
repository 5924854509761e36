use Rattle.std.proofs.Common.{◌≡◌, [], drop, take, map}
use Rattle.cs_grammar.specs.Tree.{Declarations}
use Rattle.cs_grammar.specs.View.{expr_view, condition_view}
use Rattle.cs_conditions.specs.Checks.{TellsAsked}
use Rattle.cs_conditions.specs.Faults.{chain_flaws}
use Rattle.cs_conditions.specs.Known.{Knowledge}
use Rattle.cs_conditions.proofs.flaws.check_chain.Given as goal

abbrev pub invariant-loop-place : goal.invariant-loop-place
invariant-loop-place l = (known : Knowledge) (all : Declarations) → TellsAsked l.table known all
    → chain_flaws known all (expr_view l.body) [] (map condition_view l.conditions)
    ≡ chain_flaws known all (expr_view l.body) (map condition_view (take l.place l.conditions)) (map condition_view (drop l.place l.conditions))
