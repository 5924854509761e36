use Rattle.cs_widen.proofs.Judged.{declares_the_same}
use Rattle.cs_widen.proofs.laws.meant_law.Goals as goal

pub returns : goal.returns
returns c = declares_the_same
