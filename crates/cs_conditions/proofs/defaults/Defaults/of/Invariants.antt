use Rattle.std.proofs.Common.{List, map, take}
use Rattle.std.specs.List.{flat_map}
use Rattle.cs_grammar.specs.Tree.{DefinitionTree, definitions}
use Rattle.cs_grammar.specs.View.{file_view}
use Rattle.cs_conditions.specs.Checks.{TellsLeads, TellsDefaultsOf}
use Rattle.cs_conditions.specs.Known.{default_known}
use Rattle.cs_conditions.proofs.defaults.Defaults.of.Given as goal

abbrev pub invariant-loop-file : goal.invariant-loop-file
invariant-loop-file l = (all : List DefinitionTree) → TellsLeads l.leads all → TellsDefaultsOf l.table (default_known all) (flat_map definitions (map file_view (take l.file-index l.files)))
