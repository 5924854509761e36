use Rattle.std.proofs.Common.{◌++◌, map, take}
use Rattle.cs_names.specs.Checks.{TellsScope, path_view}
use Rattle.cs_names.specs.Scopes as M
use Rattle.cs_names.proofs.scopes.Scope.add_paths.Given as goal

abbrev pub invariant-loop-path : goal.invariant-loop-path
invariant-loop-path l = (ds : M.Scope) → TellsScope l.initial.self ds → TellsScope l.self (ds ++ map path_view (take l.path-index l.paths))
