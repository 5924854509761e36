use Rattle.std.proofs.Common.{◌≡◌, false, drop}
use Rattle.cs_grammar.specs.View.{trees_of}
use Rattle.cs_embeddings.specs.Checks.{bodies_view}
use Rattle.cs_embeddings.specs.Shut as Spec
use Rattle.cs_embeddings.proofs.shut.any_shut.Given as goal

-- none so far is shut
abbrev pub invariant-loop-operand : goal.invariant-loop-operand
invariant-loop-operand l = Spec.some_shut false (trees_of (bodies_view l.operands)) ≡ Spec.some_shut false (trees_of (bodies_view (drop l.operand-index l.operands)))
