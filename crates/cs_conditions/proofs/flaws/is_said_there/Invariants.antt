use Rattle.std.proofs.Common.{◌≡◌, drop, map}
use Rattle.cs_grammar.specs.View.{condition_view}
use Rattle.cs_conditions.specs.Faults.{is_said_there}
use Rattle.cs_conditions.proofs.flaws.is_said_there.Given as goal

abbrev pub invariant-loop-condition : goal.invariant-loop-condition
invariant-loop-condition l = is_said_there l.label (map condition_view l.conditions) ≡ is_said_there l.label (map condition_view (drop l.condition-index l.conditions))
