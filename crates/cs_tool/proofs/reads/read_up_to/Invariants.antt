use Rattle.std.proofs.Common.{◌-◌, ◌≤◌, length}
use Rattle.std.specs.Io.KnownBytes.{Consumes}
use Rattle.cs_tool.proofs.reads.read_up_to.Given as goal

abbrev pub invariant-loop-count : goal.invariant-loop-count
invariant-loop-count g l = record {
  within : length l.bytes.items ≤ l.limit;
  given : Consumes (g.R.Read.remaining l.initial.input) (g.R.Read.remaining l.input) l.bytes.items;
}

abbrev pub decreases-loop-count : goal.decreases-loop-count
decreases-loop-count g l = l.limit - length l.bytes.items
