use Rattle.std.proofs.Common.{ℕ, suc, ◌<◌, get_or}
use Rattle.std.specs.Prelude.{◌≢◌}
use Rattle.cs_guard.proofs.chain.next_below.Given as goal

-- no reference before this one is one lower
abbrev pub invariant-loop-place : goal.invariant-loop-place
invariant-loop-place l = (k d : ℕ) → k < l.place → suc (get_or l.heights.items (get_or l.references k d) 0) ≢ get_or l.heights.items l.number 0
