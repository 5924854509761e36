use Rattle.std.proofs.Common.{◌≡◌, ℕ, ◌<◌, []}
use Rattle.cs_graph.specs.Graph.{graph_of}
use Rattle.cs_graph.specs.Walk.{State, IsDone}
use Rattle.cs_graph.proofs.walk.heights_by_walk.Given as goal

abbrev pub invariant-loop-number : goal.invariant-loop-number
invariant-loop-number l = record {
  state : State (graph_of l.graph) l.walk.marks.items [];
  path : l.walk.path.items ≡ [];
  done : (k : ℕ) → k < l.number → IsDone l.walk.marks.items k;
}
