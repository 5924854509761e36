use Rattle.std.proofs.Common.{take}
use Rattle.cs_rules.specs.Kinds.{AreForetold}
use Rattle.cs_rules.proofs.rows.all_by_kind.Given as goal

abbrev pub invariant-loop-rule : goal.invariant-loop-rule
invariant-loop-rule g l = AreForetold g.R.Asks.step (take l.rule-index l.rules) l.known.items
