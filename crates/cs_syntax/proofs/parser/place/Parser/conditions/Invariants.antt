use Rattle.std.proofs.Common.{◌≡◌, length, ◌-◌}
use Rattle.cs_grammar.specs.View.{condition_view}
use Rattle.cs_syntax.specs.Left.{left, with_front}
use Rattle.cs_syntax.specs.Reading.{conditions_at}
use Rattle.cs_syntax.proofs.parser.place.Parser.conditions.Given as goal

abbrev pub invariant-loop : goal.invariant-loop
invariant-loop l = with_front condition_view l.conditions.items (conditions_at (l.end - l.counter) (left l.self)) ≡ conditions_at (length (left l.fn.self)) (left l.fn.self)
