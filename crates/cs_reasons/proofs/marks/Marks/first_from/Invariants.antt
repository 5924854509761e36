use Rattle.std.proofs.Common.{◌≡◌, ℕ, ◌<◌, false}
use Rattle.cs_reasons.specs.Marked.{marked}
use Rattle.cs_reasons.proofs.marks.Marks.first_from.Given as goal

-- no rule is in the set with an item after the given one and before this one
abbrev pub invariant-loop-after : goal.invariant-loop-after
invariant-loop-after l = (j q : ℕ) → l.item < j → j < l.after → marked l.self j q ≡ false
