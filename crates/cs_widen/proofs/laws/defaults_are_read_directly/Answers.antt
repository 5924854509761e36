use Rattle.cs_widen.proofs.Direct.{read_directly}
use Rattle.cs_widen.proofs.laws.defaults_are_read_directly.Goals as goal

pub returns : goal.returns
returns c = read_directly
