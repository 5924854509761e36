use Rattle.std.proofs.Common.{◌≡◌, ℕ, ◌<◌, ◌≤◌, false}
use Rattle.cs_reasons.specs.Marked.{marked}
use Rattle.cs_reasons.proofs.marks.Marks.last_rule.Given as goal

-- no rule from this one on is in the set
abbrev pub invariant-loop-rule : goal.invariant-loop-rule
invariant-loop-rule l = (q : ℕ) → l.rule ≤ q → q < l.before → marked l.self l.item q ≡ false
