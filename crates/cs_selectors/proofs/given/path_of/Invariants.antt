use Rattle.std.proofs.Common.{◌≡◌, ◌∷◌, map, take}
use Rattle.cs_grammar.specs.View.{selector_view}
use Rattle.cs_selectors.specs.Checks.{texts_at}
use Rattle.cs_selectors.specs.Reached.{texts}
use Rattle.cs_selectors.proofs.given.path_of.Given as goal

abbrev pub invariant-loop-label : goal.invariant-loop-label
invariant-loop-label l = texts_at l.path.items ≡ l.head ∷ texts (map selector_view (take l.label-index l.labels))
