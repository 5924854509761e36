use Rattle.std.proofs.Common.{◌≡◌, drop}
use Rattle.cs_grammar.specs.View.{exprs_view}
use Rattle.cs_defaults.specs.Marks as Marks
use Rattle.cs_defaults.proofs.marks.+literal.Given as goal

abbrev pub invariant-are_literals-loop-expr : goal.invariant-are_literals-loop-expr
invariant-are_literals-loop-expr l = Marks.are_literals (exprs_view l.exprs) ≡ Marks.are_literals (exprs_view (drop l.expr-index l.exprs))
