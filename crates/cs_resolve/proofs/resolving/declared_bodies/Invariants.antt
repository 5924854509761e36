use Rattle.std.proofs.Common.{◌≡◌, map, take, drop, length}
use Rattle.std.specs.List.{flat_map}
use Rattle.cs_grammar.specs.Tree.{definitions}
use Rattle.cs_grammar.specs.View.{file_view}
use Rattle.cs_resolve.specs.Declarations.{faults_from}
use Rattle.cs_resolve.specs.Steps.{AreBodiesOf}
use Rattle.cs_resolve.specs.Narrowed.{TellsRefinements}
use Rattle.cs_resolve.specs.Refinement.{Refinements}
use Rattle.cs_package.specs.View.{names_of}
use Rattle.cs_resolve.proofs.resolving.declared_bodies.Given as goal

abbrev pub invariant-loop-number : goal.invariant-loop-number
invariant-loop-number l = record {
  long : length l.names.entries ≡ length l.bodies.items;
  bodies : (rs : Refinements) → TellsRefinements l.bases rs → AreBodiesOf rs (names_of l.names.entries) l.bodies.items (flat_map definitions (map file_view (take l.number l.file-items)));
  faults : (rs : Refinements) → TellsRefinements l.bases rs → faults_from 0 (names_of l.names.entries) (map file_view l.file-items) ≡ faults_from l.number (names_of l.names.entries) (map file_view (drop l.number l.file-items));
}
