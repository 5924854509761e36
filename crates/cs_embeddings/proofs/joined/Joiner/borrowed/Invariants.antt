use Rattle.std.proofs.Common.{◌≡◌, map, take}
use Rattle.cs_grammar.specs.View.{expr_view}
use Rattle.cs_embeddings.specs.Checks.{bodies_view}
use Rattle.cs_embeddings.proofs.joined.Joiner.borrowed.Given as goal

abbrev pub invariant-loop-expr : goal.invariant-loop-expr
invariant-loop-expr l = bodies_view l.borrowed.items ≡ map expr_view (take l.expr-index l.exprs)
