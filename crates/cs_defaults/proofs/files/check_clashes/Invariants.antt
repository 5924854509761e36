use Rattle.std.proofs.Common.{◌≡◌, ℕ, Bool, List, drop, map}
use Rattle.cs_grammar.specs.View.{file_view}
use Rattle.cs_defaults.specs.Absent.{clashes}
use Rattle.cs_defaults.specs.Checks.{TellsHanding}
use Rattle.cs_defaults.specs.Widened.{places_from}
use Rattle.cs_defaults.proofs.files.check_clashes.Given as goal

abbrev pub invariant-loop-file : goal.invariant-loop-file
invariant-loop-file l = (has : List ℕ → Bool) → TellsHanding l.handing has → places_from (clashes has) 0 (map file_view l.files) ≡ places_from (clashes has) l.file (map file_view (drop l.file l.files))
