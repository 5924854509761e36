use Rattle.cs_table.specs.Classes.{AreFirsts}
use Rattle.cs_table.specs.Filled.{IsFilledTo}
use Rattle.cs_table.proofs.filling.refill.Given as goal

-- the items before this one are judged, and each first item is one of these
abbrev pub invariant-loop-item : goal.invariant-loop-item
invariant-loop-item g l = record {
  filled : IsFilledTo l.item (g.J.Judge.item_count l.judge) (g.J.Judge.rule_count l.judge) (g.J.Judge.answer l.judge) l.done;
  firsts : AreFirsts l.item (g.J.Judge.is_of_class l.judge) l.firsts.items;
}
