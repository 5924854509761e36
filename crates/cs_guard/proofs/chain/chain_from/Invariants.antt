use Rattle.std.proofs.Common.{get_or}
use Rattle.cs_graph.specs.Graph.{graph_of}
use Rattle.cs_guard.proofs.Descents.{IsUnderWay}
use Rattle.cs_guard.proofs.chain.chain_from.Given as goal

abbrev pub decreases-loop-next : goal.decreases-loop-next
decreases-loop-next l = get_or l.heights.items l.last 0

abbrev pub invariant-loop-next : goal.invariant-loop-next
invariant-loop-next l = IsUnderWay (graph_of l.graph.items) l.heights.items l.first l.numbers.items l.last
