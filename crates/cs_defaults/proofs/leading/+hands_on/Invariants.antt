use Rattle.cs_defaults.proofs.leading.+hands_on.Given as goal

abbrev pub decreases-hands_on : goal.decreases-hands_on
decreases-hands_on l = l.most
