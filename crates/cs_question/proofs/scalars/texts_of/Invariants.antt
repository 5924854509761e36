use Rattle.std.proofs.Common.{take}
use Rattle.cs_question.specs.Outlines.{AreMarkedTexts}
use Rattle.cs_question.proofs.scalars.texts_of.Given as goal

abbrev pub invariant-loop-literal : goal.invariant-loop-literal
invariant-loop-literal l = AreMarkedTexts l.nodes (take l.literal-index l.asked) l.marks.items
