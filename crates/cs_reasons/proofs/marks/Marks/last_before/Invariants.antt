use Rattle.std.proofs.Common.{◌≡◌, ℕ, ◌<◌, ◌≤◌, false}
use Rattle.cs_reasons.specs.Marked.{marked}
use Rattle.cs_reasons.proofs.marks.Marks.last_before.Given as goal

-- no rule is in the set with an item from this one on
abbrev pub invariant-loop-before : goal.invariant-loop-before
invariant-loop-before l = (j q : ℕ) → l.before ≤ j → j < l.item → marked l.self j q ≡ false
