use Rattle.std.specs.Prelude.{◌≡◌, ◌^◌, ℕ, pos, neg_ℤ, ◌≤ℤ◌, List, map, take, IfSome}
use Rattle.std.specs.List.{filter_map}
use Rattle.cs_package.specs.View.{expression_of}
use Rattle.cs_compile.specs.Translation.{lower_limit, greatest_of}
use Rattle.cs_compile.proofs.intervals.greatest_lower.Given as goal

abbrev pub invariant-loop-operand : goal.invariant-loop-operand
invariant-loop-operand l = record {
  limit : (ns : List (List ℕ)) → l.greatest ≡ greatest_of (filter_map lower_limit (map (expression_of ns) (take l.operand-index l.operands)));
  low : IfSome l.greatest (λ k. neg_ℤ (pos (2 ^ 63)) ≤ℤ k);
}
