use Rattle.std.proofs.Common.{◌≡◌, take}
use Rattle.cs_flat.specs.Sorted.{hash_bytes}
use Rattle.cs_flat.proofs.set.text_hash.Given as goal

abbrev pub invariant-loop-byte : goal.invariant-loop-byte
invariant-loop-byte l = l.hash ≡ hash_bytes (take l.byte-index l.start)
