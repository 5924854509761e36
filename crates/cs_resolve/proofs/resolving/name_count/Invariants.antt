use Rattle.std.proofs.Common.{map, take}
use Rattle.std.specs.List.{flat_map}
use Rattle.cs_grammar.specs.Tree.{defined_name, definitions}
use Rattle.cs_grammar.specs.View.{file_view}
use Rattle.cs_resolve.specs.Steps.{HoldsNames}
use Rattle.cs_resolve.proofs.resolving.name_count.Given as goal

abbrev pub invariant-loop-file : goal.invariant-loop-file
invariant-loop-file l = HoldsNames l.names (map defined_name (flat_map definitions (map file_view (take l.file-index l.file-items))))
