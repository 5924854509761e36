use Rattle.std.proofs.Common.{◌≡◌, map, take}
use Rattle.cs_grammar.specs.View.{file_view}
use Rattle.cs_selectors.specs.Checks.{use_view}
use Rattle.cs_selectors.specs.Uses.{uses_from}
use Rattle.cs_selectors.proofs.uses.uses_in.Given as goal

abbrev pub invariant-loop-file : goal.invariant-loop-file
invariant-loop-file l = map use_view l.found.items ≡ uses_from 0 (map file_view (take l.file l.files))
