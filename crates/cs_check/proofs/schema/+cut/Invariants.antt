use Rattle.cs_check.proofs.schema.+cut.Given as goal

abbrev pub decreases-cut : goal.decreases-cut
decreases-cut l = l.depth
