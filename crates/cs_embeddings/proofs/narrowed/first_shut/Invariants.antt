use Rattle.std.proofs.Common.{◌≡◌, drop}
use Rattle.cs_grammar.specs.View.{exprs_view}
use Rattle.cs_embeddings.specs.Narrowed as Spec
use Rattle.cs_embeddings.proofs.narrowed.first_shut.Given as goal

abbrev pub invariant-loop-operand : goal.invariant-loop-operand
invariant-loop-operand l = Spec.first_shut (exprs_view l.operands) ≡ Spec.first_shut (exprs_view (drop l.operand-index l.operands))
