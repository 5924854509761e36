use Rattle.std.proofs.Common.{List, ◌++◌, map, take}
use Rattle.cs_grammar.specs.Tree.{DefinitionTree}
use Rattle.cs_grammar.specs.View.{definition_view}
use Rattle.cs_defaults.specs.Checks.{TellsBodies, TellsHandingOf}
use Rattle.cs_defaults.specs.Leading.{hands_on}
use Rattle.cs_defaults.proofs.leading.add_handing.Given as goal

abbrev pub invariant-loop-definition : goal.invariant-loop-definition
invariant-loop-definition l = (all ds : List DefinitionTree) → TellsBodies l.bodies all → TellsHandingOf l.initial.names (hands_on all) ds → TellsHandingOf l.names (hands_on all) (ds ++ map definition_view (take l.definition-index l.definition-items))
