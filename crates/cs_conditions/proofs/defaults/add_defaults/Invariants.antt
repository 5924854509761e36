use Rattle.std.proofs.Common.{List, ◌++◌, map, take}
use Rattle.cs_grammar.specs.Tree.{DefinitionTree}
use Rattle.cs_grammar.specs.View.{definition_view}
use Rattle.cs_conditions.specs.Checks.{TellsLeads, TellsDefaultsOf}
use Rattle.cs_conditions.specs.Known.{default_known}
use Rattle.cs_conditions.proofs.defaults.add_defaults.Given as goal

abbrev pub invariant-loop-definition : goal.invariant-loop-definition
invariant-loop-definition l = (all ds : List DefinitionTree) → TellsLeads l.leads all → TellsDefaultsOf l.initial.table (default_known all) ds
    → TellsDefaultsOf l.table (default_known all) (ds ++ map definition_view (take l.definition-index l.definition-items))
