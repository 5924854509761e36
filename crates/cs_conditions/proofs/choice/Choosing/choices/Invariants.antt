use Rattle.std.proofs.Common.{◌≡◌, ◌-◌, map, length}
use Rattle.cs_grammar.specs.Tree.{Declarations}
use Rattle.cs_grammar.specs.View.{expr_view}
use Rattle.cs_conditions.specs.Checks.{TellsAsked}
use Rattle.cs_conditions.specs.Choice.{made_in}
use Rattle.cs_conditions.specs.Known.{Knowledge}
use Rattle.cs_conditions.proofs.Chains.{from}
use Rattle.cs_conditions.proofs.choice.Choosing.choices.Given as goal

-- the alternatives so far are those in which so many conditions hold that are left
abbrev pub invariant-loop-passed : goal.invariant-loop-passed
invariant-loop-passed l = (known : Knowledge) (all : Declarations) → TellsAsked l.table known all
    → map expr_view l.choices.items ≡ from (made_in known all) l.at (expr_view l.fn.value) l.conditions (length l.conditions - l.passed)
