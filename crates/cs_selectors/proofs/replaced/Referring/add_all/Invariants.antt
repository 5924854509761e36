use Rattle.std.proofs.Common.{◌≡◌, ◌++◌, ℕ, List, map, take}
use Rattle.cs_grammar.specs.Tree.{Selector}
use Rattle.cs_grammar.specs.View.{definition_view}
use Rattle.cs_selectors.specs.Checks.{TellsNames, given_view}
use Rattle.cs_selectors.specs.Selectors as Spec
use Rattle.cs_selectors.proofs.replaced.Referring.add_all.Given as goal

abbrev pub invariant-loop-given : goal.invariant-loop-given
invariant-loop-given l = (by : List ℕ → List Selector → List ℕ) → TellsNames l.self.giving.now by → map definition_view l.found.items ≡ map definition_view l.initial.found.items ++ Spec.added by l.file (map given_view (take l.given-index l.order))
