use Rattle.std.proofs.Common.{◌≡◌, ◌++◌, map, take}
use Rattle.cs_grammar.specs.View.{definition_view}
use Rattle.cs_names.specs.Checks.{path_view}
use Rattle.cs_names.specs.Nested.{nested_of}
use Rattle.cs_names.proofs.nested.Nesting.add_definitions.Given as goal

abbrev pub invariant-loop-definition : goal.invariant-loop-definition
invariant-loop-definition l = map path_view l.found.items ≡ map path_view l.initial.found.items ++ nested_of l.self.file (map definition_view (take l.definition-index l.definitions))
