use Rattle.std.proofs.Common.{◌≡◌, length}
use Rattle.cs_rules.specs.Lengths.{AreLengths}
use Rattle.cs_rules.proofs.lengths.lengths_of.Given as goal

abbrev pub invariant-loop-item : goal.invariant-loop-item
invariant-loop-item l = record {
  count : length l.lengths.items ≡ l.item;
  are : AreLengths l.flat l.lengths.items;
}
