use Rattle.std.proofs.Common.{ℕ, ◌+◌, ◌≤◌, List, ◌++◌, length, Option, arith, length-append}
use Rattle.std.specs.Io.KnownBytes.{Consumes}
use Rattle.std.proofs.KnownBytes.{Consumes-trans}
use Rattle.cs_tool.specs.Streams.{LosesAtMost, chunk_bytes}
use Rattle.cs_tool.proofs.reads.read_up_to.Goals as goal

-- what was kept before, and one chunk
one_chunk_more : (a b c : Option (List ℕ)) (kept chunk : List ℕ) (limit : ℕ) → Consumes a b kept → Consumes b c chunk → length kept ≤ limit → length chunk ≤ 4096 → LosesAtMost (limit + chunk_bytes) a c
one_chunk_more a b c kept chunk limit before now within small = (kept ++ chunk, omega (arith, length-append kept chunk), Consumes-trans a b c kept chunk before now)

pub returns-then-count-limit-clause-stops : goal.returns-then-count-limit-clause-stops
returns-then-count-limit-clause-stops g c =
    one_chunk_more _ _ _ c.loop-count.bytes.items _ c.args.limit c.loop-count.invariant.given c.in-Ok.ensures.bytes.0 c.loop-count.invariant.within (omega (arith, c.in-Ok.ensures.bound.0, c.in-Ok.ensures.bound.1))

pub returns-in_err-extend_from_slice-clause-stops : goal.returns-in_err-extend_from_slice-clause-stops
returns-in_err-extend_from_slice-clause-stops g c =
    one_chunk_more _ _ _ c.loop-count.bytes.items _ c.args.limit c.loop-count.invariant.given c.in-Ok.ensures.bytes.0 c.loop-count.invariant.within (omega (arith, c.in-Ok.ensures.bound.0, c.in-Ok.ensures.bound.1))
