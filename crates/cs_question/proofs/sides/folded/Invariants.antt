use Rattle.std.proofs.Common.{map}
use Rattle.cs_question.specs.Nodes.{asked_of, Says}
use Rattle.cs_question.proofs.sides.folded.Given as goal

abbrev pub invariant-loop-place : goal.invariant-loop-place
invariant-loop-place l = Says (map asked_of l.initial.nodes.items) (map asked_of l.nodes.items)
