use Rattle.cs_reasons.specs.Reached.{IsNext}
use Rattle.cs_reasons.proofs.Passes.{places_left}
use Rattle.cs_reasons.proofs.choosing.choose.Given as goal

abbrev pub invariant-loop-at : goal.invariant-loop-at
invariant-loop-at g l = IsNext g.G.Cause.Cause.leads_to (g.G.Explains.is_cause l.graph) l.item l.rule l.marks l.at

-- how many places there are from that of the next pair on
abbrev pub decreases-loop-at : goal.decreases-loop-at
decreases-loop-at g l = places_left l.marks.items l.marks.rules l.at
