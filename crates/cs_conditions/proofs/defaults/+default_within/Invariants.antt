use Rattle.cs_conditions.proofs.defaults.+default_within.Given as goal

abbrev pub decreases-default_within : goal.decreases-default_within
decreases-default_within l = l.most
