use Rattle.std.proofs.Common.{◌≡◌, ℕ, List, drop}
use Rattle.cs_grammar.specs.View.{exprs_view}
use Rattle.cs_conditions.specs.Checks.{TellsKinds}
use Rattle.cs_conditions.specs.Kinds.{all_kinds, no_kind, kinds_of_each, kinds_of_any}
use Rattle.cs_conditions.specs.declared.kinds.Kinds.{Kinds}
use Rattle.cs_conditions.proofs.kinds.KindTable.+kinds.Given as goal

abbrev pub invariant-of_each-loop-operand : goal.invariant-of_each-loop-operand
invariant-of_each-loop-operand l = (known : List ℕ → Kinds) → TellsKinds l.self known
    → kinds_of_each known all_kinds (exprs_view l.operands) ≡ kinds_of_each known l.kinds (exprs_view (drop l.operand-index l.operands))

abbrev pub invariant-of_any-loop-operand : goal.invariant-of_any-loop-operand
invariant-of_any-loop-operand l = (known : List ℕ → Kinds) → TellsKinds l.self known
    → kinds_of_any known no_kind (exprs_view l.operands) ≡ kinds_of_any known l.kinds (exprs_view (drop l.operand-index l.operands))
