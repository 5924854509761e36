use Rattle.std.proofs.Common.{◌≡◌, map, take}
use Rattle.cs_instance.specs.Steps.{numbered}
use Rattle.cs_question.specs.Nodes.{asked_of}
use Rattle.cs_question.proofs.nodes.nodes_of.Given as goal

abbrev pub invariant-loop-rule : goal.invariant-loop-rule
invariant-loop-rule l = map asked_of l.nodes.items ≡ map (numbered l.inner) (take l.rule-index l.rules)
