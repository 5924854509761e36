use Rattle.std.proofs.Common.{◌≡◌, Some, length, slice_get}
use Rattle.cs_graph.specs.Graph.{graph_of}
use Rattle.cs_graph.specs.Walk.{Walking, Keeps, left}
use Rattle.cs_graph.specs.declared.walk.VisitState.TheVariants.{New}
use Rattle.cs_graph.proofs.walk.walk_from.Given as goal

abbrev pub decreases-loop-last : goal.decreases-loop-last
decreases-loop-last l = left l.walk.marks.items (length l.walk.path.items)

abbrev pub invariant-loop-last : goal.invariant-loop-last
invariant-loop-last l = record {
  walking : Walking (graph_of l.graph) l.walk.marks.items l.walk.path.items;
  kept : Keeps l.fn.walk.marks.items l.walk.marks.items;
  entered : slice_get l.walk.marks.items l.number ≡ Some New → ⊥;
}
