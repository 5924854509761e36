use Rattle.std.proofs.Common.{map, take}
use Rattle.cs_grammar.specs.View.{file_view}
use Rattle.cs_plain.specs.References.{TellsTexts}
use Rattle.cs_names.specs.Joined as Spec
use Rattle.cs_names.proofs.held.holding_in.Given as goal

abbrev pub invariant-loop-file : goal.invariant-loop-file
invariant-loop-file l = TellsTexts l.found (Spec.holding_in (map file_view (take l.file-index l.files)))
