use Rattle.std.proofs.Common.{◌≡◌, ◌-◌, Some, slice_get, length}
use Rattle.cs_graph.specs.Graph.{graph_of}
use Rattle.cs_graph.specs.Walk.{Passed}
use Rattle.cs_graph.proofs.walk.pass_done.Given as goal

abbrev pub decreases-loop-frame : goal.decreases-loop-frame
decreases-loop-frame l = length l.references - l.frame.passed

abbrev pub invariant-loop-frame : goal.invariant-loop-frame
invariant-loop-frame l = record {
  same : l.frame.number ≡ l.fn.frame.number;
  row : slice_get (graph_of l.graph) l.frame.number ≡ Some l.references;
  passed : Passed (graph_of l.graph) l.marks l.frame;
}
