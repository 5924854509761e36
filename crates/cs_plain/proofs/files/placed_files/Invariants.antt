use Rattle.std.proofs.Common.{◌≡◌, ℕ, List, map, take}
use Rattle.cs_grammar.specs.View.{file_view}
use Rattle.cs_plain.specs.Bodies.{bodies_in}
use Rattle.cs_plain.specs.Placed as Placed
use Rattle.cs_plain.specs.References.{TellsTexts}
use Rattle.cs_plain.proofs.files.placed_files.Given as goal

abbrev pub invariant-loop-file : goal.invariant-loop-file
invariant-loop-file l = (ns : List (List ℕ)) → TellsTexts l.names ns
    → map file_view l.placed.items ≡ map (λ f. Placed.placed_here ns (bodies_in (map file_view l.files)) (Placed.kinds_in ns (map file_view l.files)) (file_view f)) (take l.file-index l.files)
