use Rattle.std.proofs.Common.{◌≡◌, drop}
use Rattle.cs_grammar.specs.View.{exprs_view}
use Rattle.cs_embeddings.specs.Held as Spec
use Rattle.cs_embeddings.proofs.held.+holds.Given as goal

-- none so far holds any
abbrev pub invariant-hold-loop-expr : goal.invariant-hold-loop-expr
invariant-hold-loop-expr l = Spec.hold (exprs_view l.exprs) ≡ Spec.hold (exprs_view (drop l.expr-index l.exprs))
