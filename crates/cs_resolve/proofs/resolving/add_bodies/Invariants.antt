use Rattle.std.proofs.Common.{◌≡◌, List, ◌++◌, map, take, drop, length}
use Rattle.cs_grammar.specs.Tree.{DefinitionTree}
use Rattle.cs_grammar.specs.View.{definition_view}
use Rattle.cs_resolve.specs.Declarations.{places_of}
use Rattle.cs_resolve.specs.Steps.{faults_in, known_names, AreBodiesOf}
use Rattle.cs_resolve.specs.Narrowed.{TellsRefinements}
use Rattle.cs_resolve.specs.Refinement.{Refinements}
use Rattle.cs_resolve.proofs.resolving.add_bodies.Given as goal

abbrev pub invariant-loop-definition : goal.invariant-loop-definition
invariant-loop-definition l = record {
  long : length l.bodies.items ≡ length l.fn.bodies.items;
  added : (rs : Refinements) (ds : List DefinitionTree) → TellsRefinements l.resolver.bases.now rs → AreBodiesOf rs (known_names l.resolver) l.fn.bodies.items ds → AreBodiesOf rs (known_names l.resolver) l.bodies.items (ds ++ map definition_view (take l.definition-index l.definition-items));
  faults : (rs : Refinements) → TellsRefinements l.resolver.bases.now rs → faults_in l.resolver.file (known_names l.resolver) (places_of (map definition_view l.definition-items)) ≡ faults_in l.resolver.file (known_names l.resolver) (places_of (map definition_view (drop l.definition-index l.definition-items)));
}
