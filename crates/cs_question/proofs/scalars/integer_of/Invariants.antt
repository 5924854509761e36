use Rattle.std.proofs.Common.{take}
use Rattle.std.specs.List.{AllByRecursion as Each}
use Rattle.cs_question.specs.Outlines.{IsNoneBeside}
use Rattle.cs_question.proofs.scalars.integer_of.Given as goal

abbrev pub invariant-loop-mark : goal.invariant-loop-mark
invariant-loop-mark l = Each (IsNoneBeside l.nodes l.asked) (take l.mark-index l.mark-items)
