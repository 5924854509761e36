use Rattle.std.proofs.Common.{◌++◌, List, take, map}
use Rattle.cs_grammar.specs.Tree.{DefinitionTree}
use Rattle.cs_grammar.specs.View.{definition_view}
use Rattle.cs_resolve.specs.Narrowed.{HoldsSole}
use Rattle.cs_resolve.proofs.refinement.record_all_bodies.Given as goal

abbrev pub invariant-loop-definition : goal.invariant-loop-definition
invariant-loop-definition l = (ds : List DefinitionTree) → HoldsSole l.fn.bodies ds → HoldsSole l.bodies (ds ++ map definition_view (take l.definition-index l.definition-items))
