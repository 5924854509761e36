use Rattle.std.proofs.Common.{◌≡◌, List, ◌++◌, map, take}
use Rattle.cs_grammar.specs.View.{definition_view}
use Rattle.cs_grammar.specs.Tree.{DefinitionTree}
use Rattle.cs_names.specs.Checks.{TellsLifts, TellScopes}
use Rattle.cs_names.specs.Lifted.{Lifts, known, is_open}
use Rattle.cs_names.specs.Named as Spec
use Rattle.cs_names.specs.Scopes as M
use Rattle.cs_names.proofs.resolved.Naming.add_definitions.Given as goal

abbrev pub invariant-loop-definition : goal.invariant-loop-definition
invariant-loop-definition l = (all : List DefinitionTree) (ts : Lifts) (ss : List M.Scope) → TellsLifts l.self.lifting.now all ts → TellScopes l.scopes ss → map definition_view l.found.items ≡ map definition_view l.initial.found.items ++ Spec.of_definitions (known ts) (is_open ts) l.self.file ss (map definition_view (take l.definition-index l.definitions))
