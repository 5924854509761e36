use Rattle.std.proofs.Common.{◌≡◌, drop, map}
use Rattle.cs_resolve.specs.Predeclared.{among}
use Rattle.cs_resolve.specs.PredeclaredRows.{row_of}
use Rattle.cs_resolve.proofs.kinds.named_among.Given as goal

abbrev pub invariant-loop-row : goal.invariant-loop-row
invariant-loop-row l = among l.name (map row_of l.rows) ≡ among l.name (map row_of (drop l.row-index l.rows))
