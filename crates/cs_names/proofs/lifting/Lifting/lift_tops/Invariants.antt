use Rattle.std.proofs.Common.{List, map, take}
use Rattle.cs_grammar.specs.View.{name_view}
use Rattle.cs_grammar.specs.Tree.{DefinitionTree}
use Rattle.cs_names.specs.Checks.{TellsLifts, TellsScope}
use Rattle.cs_names.specs.Lifted as Spec
use Rattle.cs_names.specs.Lifted.{Lifts, is_taken, first_free, all_numbers}
use Rattle.cs_names.specs.Scopes as M
use Rattle.cs_names.proofs.lifting.Lifting.lift_tops.Given as goal

abbrev pub invariant-loop-name : goal.invariant-loop-name
invariant-loop-name l = (all : List DefinitionTree) (ts : Lifts) (every own : M.Scope) → TellsLifts l.initial.self all ts → TellsScope l.shared every → TellsScope l.bound own → TellsLifts l.self all (Spec.lift_tops all every own (map name_view (take l.name-index l.names)) ts)
