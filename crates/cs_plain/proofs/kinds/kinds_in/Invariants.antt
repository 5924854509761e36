use Rattle.std.proofs.Common.{ℕ, List, map, take}
use Rattle.cs_grammar.specs.View.{file_view}
use Rattle.cs_plain.specs.Placed as Placed
use Rattle.cs_plain.specs.References.{TellsTexts}
use Rattle.cs_plain.proofs.kinds.kinds_in.Given as goal

abbrev pub invariant-loop-file : goal.invariant-loop-file
invariant-loop-file l = (ns : List (List ℕ)) → TellsTexts l.names ns → TellsTexts l.found (Placed.kinds_in ns (map file_view (take l.file-index l.files)))
