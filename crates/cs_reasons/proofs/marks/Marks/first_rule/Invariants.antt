use Rattle.std.proofs.Common.{◌≡◌, ℕ, ◌<◌, ◌≤◌, false}
use Rattle.cs_reasons.specs.Marked.{marked}
use Rattle.cs_reasons.proofs.marks.Marks.first_rule.Given as goal

-- no rule before this one is in the set
abbrev pub invariant-loop-rule : goal.invariant-loop-rule
invariant-loop-rule l = (q : ℕ) → l.from ≤ q → q < l.rule → marked l.self l.item q ≡ false
