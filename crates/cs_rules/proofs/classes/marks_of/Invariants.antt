use Rattle.std.proofs.Common.{take}
use Rattle.cs_rules.specs.Sharing.{AreToldBy}
use Rattle.cs_rules.proofs.classes.marks_of.Given as goal

abbrev pub invariant-loop-rule : goal.invariant-loop-rule
invariant-loop-rule g l = AreToldBy g.R.Asks.step (take l.rule-index l.rules) l.marks
