use Rattle.cs_widen.proofs.Embedding.{literals_read_directly}
use Rattle.cs_widen.proofs.laws.literals_are_read_directly.Goals as goal

pub returns : goal.returns
returns c = literals_read_directly
