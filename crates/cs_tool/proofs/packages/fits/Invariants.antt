use Rattle.std.proofs.Common.{◌≡◌, ◌+◌, map, take}
use Rattle.cs_tool.specs.Texts.{most_bytes, bytes_of}
use Rattle.cs_tool.proofs.packages.fits.Given as goal

abbrev pub invariant-loop-source : goal.invariant-loop-source
invariant-loop-source l = l.left + bytes_of (map (λ s. s.now) (take l.source-index l.sources)) ≡ most_bytes
