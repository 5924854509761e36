use Rattle.cs_widen.proofs.Embedding.{unions_read_directly}
use Rattle.cs_widen.proofs.laws.unions_are_read_directly.Goals as goal

pub returns : goal.returns
returns c = unions_read_directly
