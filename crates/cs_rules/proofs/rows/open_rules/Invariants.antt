use Rattle.cs_rules.specs.Rows.{verdict_at, AreOpen}
use Rattle.cs_rules.proofs.rows.open_rules.Given as goal

abbrev pub invariant-loop-rule : goal.invariant-loop-rule
invariant-loop-rule l = AreOpen l.rule (verdict_at l.known l.place) l.rules.items
