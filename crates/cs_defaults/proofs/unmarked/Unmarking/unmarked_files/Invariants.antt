use Rattle.std.proofs.Common.{◌≡◌, ℕ, Bool, List, map, take}
use Rattle.cs_grammar.specs.View.{file_view}
use Rattle.cs_defaults.specs.Unmarked.{unmarked_file}
use Rattle.cs_defaults.specs.Checks.{TellsHanding}
use Rattle.cs_defaults.proofs.unmarked.Unmarking.unmarked_files.Given as goal

abbrev pub invariant-loop-file : goal.invariant-loop-file
invariant-loop-file l = (has : List ℕ → Bool) → TellsHanding l.self.handing.now has → map file_view l.unmarked.items ≡ map (λ f. unmarked_file has (file_view f)) (take l.file-index l.files)
