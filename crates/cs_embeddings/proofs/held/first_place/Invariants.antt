use Rattle.std.proofs.Common.{◌≡◌, drop}
use Rattle.cs_grammar.specs.View.{trees_of}
use Rattle.cs_embeddings.specs.Checks.{bodies_view}
use Rattle.cs_embeddings.specs.Held as Spec
use Rattle.cs_embeddings.proofs.held.first_place.Given as goal

-- none so far holds any
abbrev pub invariant-loop-operand : goal.invariant-loop-operand
invariant-loop-operand l = Spec.hold (trees_of (bodies_view l.operands)) ≡ Spec.hold (trees_of (bodies_view (drop l.operand-index l.operands)))
