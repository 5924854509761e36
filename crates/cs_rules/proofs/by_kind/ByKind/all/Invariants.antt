use Rattle.std.proofs.Common.{◌≡◌, ℕ, drop}
use Rattle.cs_document.specs.Opened.{Opened}
use Rattle.cs_rules.specs.Kinds.{verdict_of, both, all_decided}
use Rattle.cs_rules.proofs.by_kind.ByKind.all.Given as goal

-- the verdicts so far and those of the rules that are left
abbrev pub invariant-loop-rule : goal.invariant-loop-rule
invariant-loop-rule l = (x : Opened ℕ) → all_decided l.earlier x l.rules ≡ both (verdict_of l.verdicts x) (all_decided l.earlier x (drop l.rule-index l.rules))
