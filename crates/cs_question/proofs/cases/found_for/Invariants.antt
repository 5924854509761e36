use Rattle.cs_question.specs.Cases.{NoOther}
use Rattle.cs_question.proofs.cases.found_for.Given as goal

abbrev pub invariant-loop : goal.invariant-loop
invariant-loop l = NoOther l.nodes l.table l.asked l.cases.keys
