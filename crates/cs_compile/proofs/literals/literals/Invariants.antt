use Rattle.std.proofs.Common.{◌≡◌, ℕ, List, Some, map, take}
use Rattle.cs_package.specs.View.{expression_of}
use Rattle.cs_compile.specs.Literals.{literal_view}
use Rattle.cs_compile.specs.Translation.{literals}
use Rattle.cs_compile.proofs.literals.literals.Given as goal

abbrev pub invariant-loop-operand : goal.invariant-loop-operand
invariant-loop-operand l = (ns : List (List ℕ)) → literals (map (expression_of ns) (take l.operand-index l.operands)) ≡ Some (map literal_view l.literals.items)
