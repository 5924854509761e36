use Rattle.std.proofs.Common.{List, map, take}
use Rattle.cs_grammar.specs.View.{definition_view}
use Rattle.cs_grammar.specs.Tree.{DefinitionTree}
use Rattle.cs_names.specs.Checks.{TellsLifts}
use Rattle.cs_names.specs.Lifted as Spec
use Rattle.cs_names.specs.Lifted.{Lifts, is_taken, first_free, all_numbers}
use Rattle.cs_names.specs.Scopes as M
use Rattle.cs_names.proofs.lifting.Lifting.lift_bodies.Given as goal

abbrev pub invariant-loop-definition : goal.invariant-loop-definition
invariant-loop-definition l = (all : List DefinitionTree) (ts : Lifts) (every : M.Scope) → TellsLifts l.initial.self all ts → TellsLifts l.self all (Spec.lift_bodies all every l.file (map definition_view (take l.definition-index l.definitions)) ts)
