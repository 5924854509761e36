use Rattle.std.proofs.Common.{◌≡◌, map, take}
use Rattle.cs_grammar.specs.View.{file_view}
use Rattle.cs_names.specs.Checks.{path_view}
use Rattle.cs_names.specs.Nested.{nested_from}
use Rattle.cs_names.proofs.nested.paths_in.Given as goal

abbrev pub invariant-loop-file : goal.invariant-loop-file
invariant-loop-file l = map path_view l.found.items ≡ nested_from 0 (map file_view (take l.file l.files))
