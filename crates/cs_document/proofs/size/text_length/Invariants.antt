use Rattle.std.proofs.Common.{◌≡◌, ◌+◌, ◌≤◌, drop}
use Rattle.cs_document.specs.Sizes as sizes
use Rattle.cs_document.proofs.size.text_length.Given as goal

abbrev pub invariant-loop-byte : goal.invariant-loop-byte
invariant-loop-byte l = record {
  same : l.length + sizes.text_length (drop l.byte-index l.text) ≡ sizes.text_length l.text;
  below : l.length ≤ l.byte-index;
}
