use Rattle.std.proofs.Common.{List, ◌++◌, map, take}
use Rattle.cs_grammar.specs.Tree.{DefinitionTree}
use Rattle.cs_grammar.specs.View.{definition_view}
use Rattle.cs_conditions.specs.Checks.{TellsLeads}
use Rattle.cs_conditions.proofs.defaults.add_leads.Given as goal

abbrev pub invariant-loop-definition : goal.invariant-loop-definition
invariant-loop-definition l = (ds : List DefinitionTree) → TellsLeads l.initial.leads ds → TellsLeads l.leads (ds ++ map definition_view (take l.definition-index l.definition-items))
