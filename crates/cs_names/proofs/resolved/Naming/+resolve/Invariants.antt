use Rattle.std.proofs.Common.{◌≡◌, List, map, take}
use Rattle.cs_grammar.specs.View.{expr_view, field_view, declaration_view}
use Rattle.cs_grammar.specs.Tree.{DefinitionTree}
use Rattle.cs_names.specs.Checks.{TellsLifts, TellsScope, TellScopes}
use Rattle.cs_names.specs.Lifted.{Lifts, known, is_open}
use Rattle.cs_names.specs.Named as Spec
use Rattle.cs_names.specs.Scopes as M
use Rattle.std.specs.List.{flat_map}
use Rattle.cs_names.proofs.Parts.{kept_field, kept_seen}
use Rattle.cs_names.proofs.resolved.Naming.+resolve.Given as goal

abbrev pub invariant-resolved_each-loop-expr : goal.invariant-resolved_each-loop-expr
invariant-resolved_each-loop-expr l = (all : List DefinitionTree) (ts : Lifts) (ss : List M.Scope) → TellsLifts l.self.lifting.now all ts → TellScopes l.scopes ss → map expr_view l.resolved.items ≡ map (λ e. Spec.resolved (known ts) (is_open ts) l.self.file ss (expr_view e)) (take l.expr-index l.exprs)

abbrev pub invariant-resolved_fields-loop-field : goal.invariant-resolved_fields-loop-field
invariant-resolved_fields-loop-field l = (all : List DefinitionTree) (ts : Lifts) (scope : M.Scope) (ss : List M.Scope) → TellsLifts l.self.lifting.now all ts → TellsScope l.own scope → TellScopes l.outside ss → map field_view l.resolved.items ≡ flat_map (kept_field (known ts) (is_open ts) l.self.file scope ss) (take l.field-index l.fields)

abbrev pub invariant-resolved_declarations-loop-declaration : goal.invariant-resolved_declarations-loop-declaration
invariant-resolved_declarations-loop-declaration l = (all : List DefinitionTree) (ts : Lifts) (scope : M.Scope) (ss : List M.Scope) → TellsLifts l.self.lifting.now all ts → TellsScope l.own scope → TellScopes l.outside ss → map declaration_view l.resolved.items ≡ flat_map (λ d. kept_seen (known ts) (is_open ts) l.self.file scope ss (declaration_view d)) (take l.declaration-index l.declarations)
