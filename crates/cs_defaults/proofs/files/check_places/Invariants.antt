use Rattle.std.proofs.Common.{◌≡◌, true, drop, map}
use Rattle.cs_grammar.specs.View.{file_view}
use Rattle.cs_defaults.specs.Marks.{misplaced}
use Rattle.cs_defaults.specs.Widened.{places_from}
use Rattle.cs_defaults.proofs.files.check_places.Given as goal

abbrev pub invariant-loop-file : goal.invariant-loop-file
invariant-loop-file l = places_from (misplaced true) 0 (map file_view l.files) ≡ places_from (misplaced true) l.file (map file_view (drop l.file l.files))
