use Rattle.std.proofs.Common.{◌≡◌, drop}
use Rattle.cs_grammar.specs.View.{exprs_view}
use Rattle.cs_conditions.specs.Asked as Spec
use Rattle.cs_conditions.proofs.plain.+literal.Given as goal

abbrev pub invariant-some_has_literal-loop-expr : goal.invariant-some_has_literal-loop-expr
invariant-some_has_literal-loop-expr l = Spec.some_has_literal (exprs_view l.exprs) ≡ Spec.some_has_literal (exprs_view (drop l.expr-index l.exprs))
