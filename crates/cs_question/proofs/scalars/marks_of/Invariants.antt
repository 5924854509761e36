use Rattle.std.proofs.Common.{take}
use Rattle.cs_question.specs.Outlines.{AreMarked}
use Rattle.cs_question.proofs.scalars.marks_of.Given as goal

abbrev pub invariant-loop-literal : goal.invariant-loop-literal
invariant-loop-literal l = AreMarked l.nodes (take l.literal-index l.asked) l.marks.items
