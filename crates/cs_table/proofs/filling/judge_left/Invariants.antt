use Rattle.std.proofs.Common.{length}
use Rattle.std.specs.Prelude.{slice_index}
use Rattle.cs_table.specs.Filled.{IsUnderWay}
use Rattle.cs_table.specs.Judged.{verdicts}
use Rattle.cs_table.proofs.filling.judge_left.Given as goal

-- the rules before this one that were left are judged, and those that weren't left are decided
abbrev pub invariant-loop-left : goal.invariant-loop-left
invariant-loop-left g l = IsUnderWay l.left-index l.item (g.J.Judge.item_count l.judge) (g.J.Judge.rule_count l.judge) (g.J.Judge.answer l.judge) (slice_index l.row.left.now) (length l.row.left.now) (verdicts l.row.table.now l.row.item) l.done
