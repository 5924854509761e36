use Rattle.std.proofs.Common.{List, ◌++◌, map, take}
use Rattle.cs_grammar.specs.Tree.{DefinitionTree}
use Rattle.cs_grammar.specs.View.{definition_view}
use Rattle.cs_embeddings.specs.Checks.{TellsBodies}
use Rattle.cs_embeddings.proofs.definitions.Bodies.add_all.Given as goal

abbrev pub invariant-loop-definition : goal.invariant-loop-definition
invariant-loop-definition l = (ds : List DefinitionTree) → TellsBodies l.initial.self ds → TellsBodies l.self (ds ++ map definition_view (take l.definition-index l.definition-items))
