use Rattle.std.proofs.Common.{◌≡◌, map, take}
use Rattle.cs_graph.specs.Walk.{height_of}
use Rattle.cs_graph.proofs.walk.heights_of.Given as goal

abbrev pub invariant-loop-mark : goal.invariant-loop-mark
invariant-loop-mark l = l.heights.items ≡ map height_of (take l.mark-index l.marks)
