use Rattle.std.proofs.Common.{map, take}
use Rattle.cs_grammar.specs.View.{file_view}
use Rattle.cs_names.specs.Checks.{TellsScope}
use Rattle.cs_names.specs.Scopes.{shared_from}
use Rattle.cs_names.proofs.scopes.Scope.open.Given as goal

abbrev pub invariant-loop-file : goal.invariant-loop-file
invariant-loop-file l = TellsScope l.scope (shared_from 0 (map file_view (take l.file l.files)))
