use Rattle.std.proofs.Common.{◌≤◌}
use Rattle.cs_reasons.specs.Reached.{IsNext}
use Rattle.cs_reasons.specs.Listed.{AreListed}
use Rattle.cs_reasons.specs.Passed.{IsPairTo, IsCauseTo, AreListedTo}
use Rattle.cs_reasons.proofs.Passes.{places_left}
use Rattle.cs_reasons.proofs.listing.list.Given as goal

-- the causes of the pair before this one are listed
abbrev pub invariant-loop-cause : goal.invariant-loop-cause
invariant-loop-cause g l = record {
  listed : AreListed g.G.Cause.Cause.leads_to (IsPairTo g.G.Cause.Cause.leads_to (g.G.Explains.is_cause l.graph) l.item l.rule l.from l.by)
      (IsCauseTo g.G.Cause.Cause.leads_to (g.G.Explains.is_cause l.graph) l.item l.rule l.cause-items l.cause-index l.from l.by) l.most l.listed;
  grown : l.initial.listed.count ≤ l.listed.count;
}

-- the pairs before this one are listed
abbrev pub invariant-loop-at : goal.invariant-loop-at
invariant-loop-at g l = record {
  next : IsNext g.G.Cause.Cause.leads_to (g.G.Explains.is_cause l.graph) l.item l.rule l.marks l.at;
  listed : AreListedTo g.G.Cause.Cause.leads_to (g.G.Explains.is_cause l.graph) l.item l.rule l.most l.at l.listed;
}

abbrev pub decreases-loop-at : goal.decreases-loop-at
decreases-loop-at g l = places_left l.marks.items l.marks.rules l.at
