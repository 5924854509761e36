use Rattle.std.proofs.Common.{◌≡◌, take}
use Rattle.cs_graph.specs.Paths.{tail_from}
use Rattle.cs_graph.specs.Walk.{numbers_of}
use Rattle.cs_graph.proofs.cycle.path_from.Given as goal

abbrev pub invariant-loop-frame : goal.invariant-loop-frame
invariant-loop-frame l = l.numbers.items ≡ tail_from l.number (numbers_of (take l.frame-index l.path))
