use Rattle.std.proofs.Common.{List, map, take}
use Rattle.std.specs.List.{flat_map}
use Rattle.cs_grammar.specs.Tree.{DefinitionTree, definitions}
use Rattle.cs_grammar.specs.View.{file_view}
use Rattle.cs_defaults.specs.Checks.{TellsBodies, TellsHandingOf}
use Rattle.cs_defaults.specs.Leading.{hands_on}
use Rattle.cs_defaults.proofs.leading.Handing.of.Given as goal

abbrev pub invariant-loop-file : goal.invariant-loop-file
invariant-loop-file l = (all : List DefinitionTree) → TellsBodies l.bodies all → TellsHandingOf l.names (hands_on all) (flat_map definitions (map file_view (take l.file-index l.files)))
