use Rattle.cs_widen.proofs.Default.{accepted_in_wide}
use Rattle.cs_widen.proofs.laws.wide_law.Goals as goal

pub returns : goal.returns
returns c = accepted_in_wide c.default_packages_are_meant.ensures c.wide_reads_the_default.ensures
