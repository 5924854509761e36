use Rattle.std.proofs.Common.{◌≡◌, ◌++◌, map, take}
use Rattle.cs_grammar.specs.View.{definition_view}
use Rattle.cs_selectors.specs.Checks.{use_view}
use Rattle.cs_selectors.specs.Uses as Spec
use Rattle.cs_selectors.proofs.uses.add_definitions.Given as goal

abbrev pub invariant-loop-definition : goal.invariant-loop-definition
invariant-loop-definition l = map use_view l.found.items ≡ map use_view l.initial.found.items ++ Spec.uses_of l.file (map definition_view (take l.definition-index l.definitions))
