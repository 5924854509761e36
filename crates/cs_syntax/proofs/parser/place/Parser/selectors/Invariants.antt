use Rattle.std.proofs.Common.{◌≡◌, length, ◌-◌}
use Rattle.cs_grammar.specs.View.{selector_view}
use Rattle.cs_syntax.specs.Left.{left, with_front}
use Rattle.cs_syntax.specs.Reading.{selectors_at}
use Rattle.cs_syntax.proofs.parser.place.Parser.selectors.Given as goal

abbrev pub invariant-loop : goal.invariant-loop
invariant-loop l = with_front selector_view l.labels.items (selectors_at (l.end - l.counter) (left l.self)) ≡ selectors_at (length (left l.fn.self)) (left l.fn.self)
