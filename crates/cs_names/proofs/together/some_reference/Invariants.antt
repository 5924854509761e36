use Rattle.std.proofs.Common.{◌≡◌, drop}
use Rattle.cs_grammar.specs.View.{exprs_view}
use Rattle.cs_names.specs.Named as Spec
use Rattle.cs_names.proofs.together.some_reference.Given as goal

abbrev pub invariant-loop-operand : goal.invariant-loop-operand
invariant-loop-operand l = Spec.some_reference (exprs_view l.operands) ≡ Spec.some_reference (exprs_view (drop l.operand-index l.operands))
