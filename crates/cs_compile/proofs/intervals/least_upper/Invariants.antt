use Rattle.std.specs.Prelude.{◌≡◌, ◌^◌, ℕ, pos, ◌<ℤ◌, List, map, take, IfSome}
use Rattle.std.specs.List.{filter_map}
use Rattle.cs_package.specs.View.{expression_of}
use Rattle.cs_compile.specs.Translation.{upper_limit, least_of}
use Rattle.cs_compile.proofs.intervals.least_upper.Given as goal

abbrev pub invariant-loop-operand : goal.invariant-loop-operand
invariant-loop-operand l = record {
  limit : (ns : List (List ℕ)) → l.least ≡ least_of (filter_map upper_limit (map (expression_of ns) (take l.operand-index l.operands)));
  high : IfSome l.least (λ k. k <ℤ pos (2 ^ 63));
}
