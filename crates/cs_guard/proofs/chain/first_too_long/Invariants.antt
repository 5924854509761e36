use Rattle.std.proofs.Common.{ℕ, ◌<◌, ◌≤◌, get_or}
use Rattle.cs_guard.specs.Limits.{most_references}
use Rattle.cs_guard.proofs.chain.first_too_long.Given as goal

-- no height before this one is too great
abbrev pub invariant-loop-place : goal.invariant-loop-place
invariant-loop-place l = (k d : ℕ) → k < l.place → get_or l.heights.items k d ≤ most_references
