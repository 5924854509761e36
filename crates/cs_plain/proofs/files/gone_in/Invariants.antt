use Rattle.std.proofs.Common.{ℕ, List, map, take}
use Rattle.cs_grammar.specs.View.{file_view}
use Rattle.cs_plain.specs.Placed.{gone_in}
use Rattle.cs_plain.specs.References.{TellsTexts}
use Rattle.cs_plain.proofs.files.gone_in.Given as goal

abbrev pub invariant-loop-file : goal.invariant-loop-file
invariant-loop-file l = (bs cs : List (List ℕ)) → TellsTexts l.before bs → TellsTexts l.after cs → TellsTexts l.gone (gone_in bs cs (map file_view (take l.file-index l.files)))
