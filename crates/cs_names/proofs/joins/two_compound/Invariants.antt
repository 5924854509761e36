use Rattle.std.proofs.Common.{◌≡◌, drop}
use Rattle.cs_grammar.specs.View.{exprs_view}
use Rattle.cs_names.specs.Joined as Spec
use Rattle.cs_names.proofs.joins.two_compound.Given as goal

abbrev pub invariant-loop-place : goal.invariant-loop-place
invariant-loop-place l = Spec.two_compound (exprs_view l.exprs) ≡ Spec.two_compound (exprs_view (drop l.place l.exprs))
