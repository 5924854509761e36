use Rattle.std.proofs.Common.{◌≡◌, List, ◌++◌, map, take}
use Rattle.cs_grammar.specs.View.{definition_view, name_view}
use Rattle.cs_grammar.specs.Tree.{DefinitionTree}
use Rattle.cs_names.specs.Checks.{TellsLifts, TellsScope}
use Rattle.cs_names.specs.Lifted.{Lifts, known, is_open}
use Rattle.cs_names.specs.Named as Spec
use Rattle.cs_names.specs.Scopes as M
use Rattle.cs_names.proofs.resolved.Naming.add_names.Given as goal

abbrev pub invariant-loop-name : goal.invariant-loop-name
invariant-loop-name l = (all : List DefinitionTree) (ts : Lifts) (every own : M.Scope) → TellsLifts l.self.lifting.now all ts → TellsScope l.shared every → TellsScope l.bound own → map definition_view l.found.items ≡ map definition_view l.initial.found.items ++ Spec.of_names (known ts) (is_open ts) l.self.file every own (map name_view (take l.name-index l.names))
