use Rattle.std.proofs.Common.{◌≡◌, drop}
use Rattle.cs_grammar.specs.View.{trees_of}
use Rattle.cs_embeddings.specs.Checks.{bodies_view}
use Rattle.cs_embeddings.specs.Shut as Spec
use Rattle.cs_embeddings.proofs.shut.all_open.Given as goal

-- all so far are open
abbrev pub invariant-loop-operand : goal.invariant-loop-operand
invariant-loop-operand l = Spec.are_open (trees_of (bodies_view l.operands)) ≡ Spec.are_open (trees_of (bodies_view (drop l.operand-index l.operands)))
