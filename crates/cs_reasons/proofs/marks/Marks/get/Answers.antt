use Rattle.std.proofs.Common.{sym}
use Rattle.cs_reasons.proofs.Marked.{beyond_items, beyond_rules}
use Rattle.cs_reasons.proofs.marks.Marks.get.Goals as goal
use Rattle.cs_reasons.proofs.marks.Marks.get.Goals.{then-self-item-via-then-self-item, then-self-item-via-else-self-item+then-self-rule}

pub returns-then-self-item : goal.returns-then-self-item
returns-then-self-item c = elim c.then-self-item.branch [
  | then-self-item-via-then-self-item w ↦ sym (beyond_items c.args.self.now c.args.item c.args.rule w.if-self-item.true)
  | then-self-item-via-else-self-item+then-self-rule w ↦ sym (beyond_rules c.args.self.now c.args.item c.args.rule w.if-self-rule.true)
]
