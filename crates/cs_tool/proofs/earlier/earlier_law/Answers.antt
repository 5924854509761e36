use Rattle.cs_tool.proofs.EarlierSources.{still_accepted, still_instances, same_definitions}
use Rattle.cs_tool.proofs.earlier.earlier_law.Goals as goal

pub returns : goal.returns
returns c = record { accepted = still_accepted; still = still_instances; same = same_definitions }
