use Rattle.std.proofs.Common.{◌≡◌}
use Rattle.cs_reasons.specs.Reached.{AreMarked}
use Rattle.cs_reasons.proofs.reach.mark_all.Given as goal

-- the pairs that the causes before this one lead to are in the set
abbrev pub invariant-loop-cause : goal.invariant-loop-cause
invariant-loop-cause g l = record {
  items : l.marks.items ≡ l.initial.marks.items;
  rules : l.marks.rules ≡ l.initial.marks.rules;
  marked : AreMarked g.C.Cause.leads_to l.causes l.cause-index l.initial.marks l.marks;
}
