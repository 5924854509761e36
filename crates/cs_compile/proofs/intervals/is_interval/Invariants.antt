use Rattle.std.specs.Prelude.{◌≡◌, ℕ, true, ◌||◌, List, map, take}
use Rattle.std.specs.List.{list_all, list_any}
use Rattle.cs_package.specs.View.{expression_of}
use Rattle.cs_compile.specs.Translation.{is_integer_kind, is_bound}
use Rattle.cs_compile.proofs.intervals.is_interval.Given as goal

abbrev pub invariant-loop-operand : goal.invariant-loop-operand
invariant-loop-operand l = record {
  alone : (ns : List (List ℕ)) → list_all (λ e. is_integer_kind e || is_bound e) (map (expression_of ns) (take l.operand-index l.operands)) ≡ true;
  kinds : (ns : List (List ℕ)) → l.has_kind ≡ list_any is_integer_kind (map (expression_of ns) (take l.operand-index l.operands));
}
