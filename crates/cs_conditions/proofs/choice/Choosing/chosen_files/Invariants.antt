use Rattle.std.proofs.Common.{◌≡◌, map, take}
use Rattle.cs_grammar.specs.View.{file_view}
use Rattle.cs_conditions.specs.Chosen.{chosen_file}
use Rattle.cs_conditions.specs.Checks.{TellsKnown}
use Rattle.cs_conditions.specs.Known.{Knowledge}
use Rattle.cs_conditions.proofs.choice.Choosing.chosen_files.Given as goal

abbrev pub invariant-loop-file : goal.invariant-loop-file
invariant-loop-file l = (known : Knowledge) → TellsKnown l.self.known.now known → map file_view l.chosen.items ≡ map (λ f. chosen_file known (file_view f)) (take l.file-index l.files)
