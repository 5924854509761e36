use Rattle.cs_reasons.specs.Closest.{AreSameLinks}
use Rattle.cs_reasons.proofs.ties.count_ties.Given as goal

-- the links are the same but for their counts
abbrev pub invariant-loop-place : goal.invariant-loop-place
invariant-loop-place g l = AreSameLinks l.initial.links.items l.links.items
