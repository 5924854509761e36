use Rattle.std.proofs.Common.{◌≡◌}
use Rattle.cs_reasons.specs.Reached.{AreReachedTo}
use Rattle.cs_reasons.proofs.Reached.{places_to}
use Rattle.cs_reasons.proofs.reach.reach.Given as goal

abbrev pub invariant-loop-at : goal.invariant-loop-at
invariant-loop-at g l = record {
  items : l.marks.items ≡ g.G.Explains.item_count l.graph;
  rules : l.marks.rules ≡ g.G.Explains.rule_count l.graph;
  reached : AreReachedTo g.G.Cause.Cause.leads_to (g.G.Explains.is_cause l.graph) l.item l.rule l.at l.marks;
}

-- how many places there are up to that of the next pair
abbrev pub decreases-loop-at : goal.decreases-loop-at
decreases-loop-at g l = places_to l.marks.rules l.at
