use Rattle.cs_widen.proofs.Asked.{asked_read_directly}
use Rattle.cs_widen.proofs.laws.asked_fields_are_read_directly.Goals as goal

pub returns : goal.returns
returns c = asked_read_directly
