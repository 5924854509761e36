use Rattle.std.proofs.Common.{◌≡◌, ◌++◌, map, drop}
use Rattle.cs_grammar.specs.View.{expr_view}
use Rattle.cs_embeddings.specs.Checks.{bodies_view}
use Rattle.cs_embeddings.proofs.PlainParts.{held_of}
use Rattle.cs_embeddings.proofs.held.holding.Given as goal

abbrev pub invariant-loop-operand : goal.invariant-loop-operand
invariant-loop-operand l =
    bodies_view l.held.items ++ held_of (map expr_view (drop l.operand-index l.operands)) ≡ held_of (map expr_view l.operands)
