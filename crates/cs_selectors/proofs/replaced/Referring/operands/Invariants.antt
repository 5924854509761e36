use Rattle.std.proofs.Common.{◌≡◌, ℕ, List, map, take}
use Rattle.cs_grammar.specs.Tree.{Selector}
use Rattle.cs_grammar.specs.View.{expr_view}
use Rattle.cs_plain.specs.Selecting.{referring}
use Rattle.cs_selectors.specs.Checks.{TellsNames, tree_at}
use Rattle.cs_selectors.specs.Selectors.{operand}
use Rattle.cs_selectors.proofs.replaced.Referring.operands.Given as goal

abbrev pub invariant-loop-value : goal.invariant-loop-value
invariant-loop-value l = (by : List ℕ → List Selector → List ℕ) → TellsNames l.self.giving.now by → map expr_view l.operands.items ≡ map (λ e. referring by (operand (tree_at e))) (take l.value-index l.values)
