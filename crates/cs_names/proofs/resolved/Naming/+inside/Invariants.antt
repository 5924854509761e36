use Rattle.std.proofs.Common.{◌≡◌, List, ◌++◌, map, take}
use Rattle.cs_grammar.specs.View.{exprs_view, fields_view, declarations_view, definition_view}
use Rattle.cs_grammar.specs.Tree.{DefinitionTree}
use Rattle.cs_names.specs.Checks.{TellsLifts, TellsScope, TellScopes}
use Rattle.cs_names.specs.Lifted.{Lifts, known, is_open}
use Rattle.cs_names.specs.Named as Spec
use Rattle.cs_names.specs.Scopes as M
use Rattle.cs_names.proofs.resolved.Naming.+inside.Given as goal

abbrev pub invariant-add_each-loop-expr : goal.invariant-add_each-loop-expr
invariant-add_each-loop-expr l = (all : List DefinitionTree) (ts : Lifts) (ss : List M.Scope) → TellsLifts l.self.lifting.now all ts → TellScopes l.scopes ss → map definition_view l.found.items ≡ map definition_view l.initial.found.items ++ Spec.inside_each (known ts) (is_open ts) l.self.file ss (exprs_view (take l.expr-index l.exprs))

abbrev pub invariant-add_fields-loop-field : goal.invariant-add_fields-loop-field
invariant-add_fields-loop-field l = (all : List DefinitionTree) (ts : Lifts) (scope : M.Scope) (ss : List M.Scope) → TellsLifts l.self.lifting.now all ts → TellsScope l.own scope → TellScopes l.outside ss → map definition_view l.found.items ≡ map definition_view l.initial.found.items ++ Spec.inside_fields (known ts) (is_open ts) l.self.file scope ss (fields_view (take l.field-index l.fields))

abbrev pub invariant-add_declarations-loop-declaration : goal.invariant-add_declarations-loop-declaration
invariant-add_declarations-loop-declaration l = (all : List DefinitionTree) (ts : Lifts) (scope : M.Scope) (ss : List M.Scope) → TellsLifts l.self.lifting.now all ts → TellsScope l.own scope → TellScopes l.outside ss → map definition_view l.found.items ≡ map definition_view l.initial.found.items ++ Spec.inside_declarations (known ts) (is_open ts) l.self.file scope ss (declarations_view (take l.declaration-index l.declarations))
