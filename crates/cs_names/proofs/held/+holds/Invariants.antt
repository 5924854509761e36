use Rattle.std.proofs.Common.{◌≡◌, drop}
use Rattle.cs_grammar.specs.View.{exprs_view}
use Rattle.cs_names.specs.Joined as Spec
use Rattle.cs_names.proofs.held.+holds.Given as goal

abbrev pub invariant-some_holds-loop-expr : goal.invariant-some_holds-loop-expr
invariant-some_holds-loop-expr l = Spec.some_holds (exprs_view l.exprs) ≡ Spec.some_holds (exprs_view (drop l.expr-index l.exprs))
