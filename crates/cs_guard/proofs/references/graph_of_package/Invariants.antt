use Rattle.std.proofs.Common.{◌≡◌, ℕ, List, Some, length, slice_get}
use Rattle.cs_graph.specs.Graph.{graph_of}
use Rattle.cs_guard.specs.declared.references.Followed.TheVariants.{Strong}
use Rattle.cs_guard.proofs.GraphRows.{IsRow}
use Rattle.cs_guard.proofs.references.graph_of_package.Given as goal

abbrev pub invariant-loop-number : goal.invariant-loop-number
invariant-loop-number l = record {
  long : length l.graph.items ≡ l.number;
  rows : (i : ℕ) (row : List ℕ) → slice_get (graph_of l.graph.items) i ≡ Some row → IsRow Strong l.package i row;
}
