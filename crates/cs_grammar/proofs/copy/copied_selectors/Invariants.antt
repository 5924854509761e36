use Rattle.std.proofs.Common.{◌≡◌, map, take}
use Rattle.cs_grammar.specs.View.{selector_view}
use Rattle.cs_grammar.proofs.copy.copied_selectors.Given as goal

abbrev pub invariant-loop-selector : goal.invariant-loop-selector
invariant-loop-selector l = map selector_view l.copies.items ≡ map selector_view (take l.selector-index l.selectors)
