use Rattle.std.proofs.Common.{◌≡◌, drop}
use Rattle.cs_grammar.specs.View.{exprs_view}
use Rattle.cs_names.specs.Joined as Spec
use Rattle.cs_names.proofs.joins.some_compound.Given as goal

abbrev pub invariant-loop-expr : goal.invariant-loop-expr
invariant-loop-expr l = Spec.some_compound (exprs_view l.exprs) ≡ Spec.some_compound (exprs_view (drop l.expr-index l.exprs))
