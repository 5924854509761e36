use Rattle.std.proofs.Common.{◌≡◌, drop}
use Rattle.cs_grammar.specs.View.{exprs_view}
use Rattle.cs_plain.specs.Plain as Spec
use Rattle.cs_plain.proofs.plain.some_marked.Given as goal

abbrev pub invariant-loop-expr : goal.invariant-loop-expr
invariant-loop-expr l = Spec.some_marked (exprs_view l.exprs) ≡ Spec.some_marked (exprs_view (drop l.expr-index l.exprs))
