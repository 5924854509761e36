use Rattle.std.proofs.Common.{◌≡◌, List, map, take}
use Rattle.cs_grammar.specs.View.{file_view}
use Rattle.cs_grammar.specs.Tree.{DefinitionTree}
use Rattle.cs_names.specs.Checks.{TellsLifts, TellsScope}
use Rattle.cs_names.specs.Lifted.{Lifts, known, is_open}
use Rattle.cs_names.specs.Named as Spec
use Rattle.cs_names.specs.Scopes as M
use Rattle.cs_names.proofs.inside.named_files.Given as goal

abbrev pub invariant-loop-file : goal.invariant-loop-file
invariant-loop-file l = (all : List DefinitionTree) (ts : Lifts) (every : M.Scope) → TellsLifts l.lifting all ts → TellsScope l.shared every → map file_view l.named.items ≡ Spec.named_from (known ts) (is_open ts) every 0 (map file_view (take l.file l.files))
