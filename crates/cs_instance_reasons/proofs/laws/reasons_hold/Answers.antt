use Rattle.cs_instance_reasons.proofs.Refusals as refusals
use Rattle.cs_instance_reasons.proofs.laws.reasons_hold.Goals as goal

pub returns : goal.returns
returns c = refusals.reasons_hold c.args.«package».now
