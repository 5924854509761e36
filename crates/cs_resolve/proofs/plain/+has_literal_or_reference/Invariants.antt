use Rattle.std.proofs.Common.{◌≡◌, drop}
use Rattle.cs_resolve.specs.Plain as Plain
use Rattle.cs_grammar.specs.View.{exprs_view}
use Rattle.cs_resolve.proofs.plain.+has_literal_or_reference.Given as goal

abbrev pub invariant-has_literal_or_reference_some-loop-operand : goal.invariant-has_literal_or_reference_some-loop-operand
invariant-has_literal_or_reference_some-loop-operand l = Plain.has_literal_or_reference_some (exprs_view l.operand-items) ≡ Plain.has_literal_or_reference_some (exprs_view (drop l.operand-index l.operand-items))
