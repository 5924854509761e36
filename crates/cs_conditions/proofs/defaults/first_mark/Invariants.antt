use Rattle.std.proofs.Common.{◌≡◌, drop}
use Rattle.cs_grammar.specs.View.{exprs_view}
use Rattle.cs_conditions.specs.Defaults as Spec
use Rattle.cs_conditions.proofs.defaults.first_mark.Given as goal

-- none so far is marked
abbrev pub invariant-loop-operand : goal.invariant-loop-operand
invariant-loop-operand l = Spec.first_mark (exprs_view l.operands) ≡ Spec.first_mark (exprs_view (drop l.operand-index l.operands))
