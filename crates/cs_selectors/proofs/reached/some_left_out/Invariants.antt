use Rattle.std.proofs.Common.{◌≡◌, map, drop}
use Rattle.std.specs.List.{list_any}
use Rattle.cs_grammar.specs.View.{selector_view}
use Rattle.cs_selectors.specs.Reached.{is_left_out}
use Rattle.cs_selectors.proofs.reached.some_left_out.Given as goal

abbrev pub invariant-loop-label : goal.invariant-loop-label
invariant-loop-label l = list_any is_left_out (map selector_view l.labels) ≡ list_any is_left_out (map selector_view (drop l.label-index l.labels))
