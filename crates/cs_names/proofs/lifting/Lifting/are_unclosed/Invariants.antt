use Rattle.std.proofs.Common.{◌≡◌, List, drop}
use Rattle.cs_grammar.specs.Tree.{DefinitionTree}
use Rattle.cs_grammar.specs.View.{exprs_view}
use Rattle.cs_names.specs.Checks.{TellsLifts}
use Rattle.cs_names.specs.Lifted.{Lifts, is_open}
use Rattle.cs_names.specs.Named as Spec
use Rattle.cs_names.proofs.lifting.Lifting.are_unclosed.Given as goal

abbrev pub invariant-loop-operand : goal.invariant-loop-operand
invariant-loop-operand l = (all : List DefinitionTree) (ts : Lifts) → TellsLifts l.self all ts
    → Spec.are_unclosed (is_open ts) (exprs_view l.operands) ≡ Spec.are_unclosed (is_open ts) (exprs_view (drop l.operand-index l.operands))
