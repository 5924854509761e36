use Rattle.std.proofs.Common.{◌≡◌, ◌++◌, false, map, drop}
use Rattle.cs_grammar.specs.View.{expr_view}
use Rattle.cs_embeddings.specs.Standing.{operand_view, standing}
use Rattle.cs_embeddings.proofs.held.standing.Given as goal

abbrev pub invariant-loop-operand : goal.invariant-loop-operand
invariant-loop-operand l =
    map operand_view l.standing.items ++ standing l.is_met (map expr_view (drop l.operand-index l.operands)) ≡ standing false (map expr_view l.operands)
