use Rattle.std.proofs.Common.{List, ◌++◌, map, take}
use Rattle.cs_grammar.specs.Tree.{DefinitionTree}
use Rattle.cs_grammar.specs.View.{definition_view}
use Rattle.cs_names.specs.Taken.{TellsDefined}
use Rattle.cs_names.proofs.taken.add_defined.Given as goal

abbrev pub invariant-loop-definition : goal.invariant-loop-definition
invariant-loop-definition l = (ds : List DefinitionTree) → TellsDefined l.initial.defined ds → TellsDefined l.defined (ds ++ map definition_view (take l.definition-index l.definition-items))
