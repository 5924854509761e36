use Rattle.std.proofs.Common.{◌≡◌, List, drop}
use Rattle.cs_names.specs.Checks.{TellScopes}
use Rattle.cs_names.specs.Scopes as M
use Rattle.cs_names.specs.Scopes.{scope_of_fields, scope_of_declarations, bound_scope, open_scope, shared_from, denoted, is_field}
use Rattle.cs_names.proofs.scopes.is_field.Given as goal

abbrev pub invariant-loop-around : goal.invariant-loop-around
invariant-loop-around l = (ss : List M.Scope) → TellScopes l.scopes ss → is_field ss l.name ≡ is_field (drop l.around-index ss) l.name
