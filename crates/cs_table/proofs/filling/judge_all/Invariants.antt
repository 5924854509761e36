use Rattle.std.proofs.Common.{false}
use Rattle.cs_table.specs.Filled.{IsUnderWay}
use Rattle.cs_table.proofs.filling.judge_all.Given as goal

-- the rules before this one are judged
abbrev pub invariant-loop-rule : goal.invariant-loop-rule
invariant-loop-rule g l = IsUnderWay l.rule l.item (g.J.Judge.item_count l.judge) (g.J.Judge.rule_count l.judge) (g.J.Judge.answer l.judge) (λ r. r) (g.J.Judge.rule_count l.judge) (λ r. false) l.done
