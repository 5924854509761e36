use Rattle.std.proofs.Common.{◌≡◌, drop}
use Rattle.cs_grammar.specs.View.{exprs_view}
use Rattle.cs_conditions.specs.Asked as Spec
use Rattle.cs_conditions.proofs.plain.+plain.Given as goal

abbrev pub invariant-are_plain-loop-expr : goal.invariant-are_plain-loop-expr
invariant-are_plain-loop-expr l = Spec.are_plain (exprs_view l.exprs) ≡ Spec.are_plain (exprs_view (drop l.expr-index l.exprs))
