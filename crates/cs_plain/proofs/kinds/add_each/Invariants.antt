use Rattle.std.proofs.Common.{◌++◌, ℕ, List, take}
use Rattle.cs_grammar.specs.View.{exprs_view}
use Rattle.cs_plain.specs.Plain as Spec
use Rattle.cs_plain.specs.References.{TellsTexts}
use Rattle.cs_plain.proofs.kinds.add_each.Given as goal

abbrev pub invariant-loop-operand : goal.invariant-loop-operand
invariant-loop-operand l = (ss : List (List ℕ)) → TellsTexts l.initial.found ss → TellsTexts l.found (ss ++ Spec.kinds_each (exprs_view (take l.operand-index l.operands)))
