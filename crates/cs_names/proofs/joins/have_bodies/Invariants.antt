use Rattle.std.proofs.Common.{◌≡◌, [], map, take, drop}
use Rattle.cs_grammar.specs.View.{file_view}
use Rattle.std.specs.List.{flat_map}
use Rattle.cs_grammar.specs.Tree.{defined_name, definitions}
use Rattle.cs_plain.specs.References.{TellsTexts}
use Rattle.cs_names.specs.Joined as Spec
use Rattle.cs_names.proofs.joins.have_bodies.Given as goal

abbrev pub invariant-loop-file : goal.invariant-loop-file
invariant-loop-file l = (TellsTexts l.seen (map defined_name (flat_map definitions (map file_view (take l.file-index l.files))))) × (Spec.repeats [] (map defined_name (flat_map definitions (map file_view l.files))) ≡ Spec.repeats (map defined_name (flat_map definitions (map file_view (take l.file-index l.files)))) (map defined_name (flat_map definitions (map file_view (drop l.file-index l.files)))))
