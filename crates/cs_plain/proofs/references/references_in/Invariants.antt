use Rattle.std.proofs.Common.{map, take}
use Rattle.cs_grammar.specs.View.{file_view}
use Rattle.cs_plain.specs.References.{TellsTexts}
use Rattle.cs_plain.specs.References as Spec
use Rattle.cs_plain.proofs.references.references_in.Given as goal

abbrev pub invariant-loop-file : goal.invariant-loop-file
invariant-loop-file l = TellsTexts l.found (Spec.references_in l.is_all (map file_view (take l.file-index l.files)))
