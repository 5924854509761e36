use Rattle.cs_instance.proofs.Meaning as meaning
use Rattle.cs_instance.proofs.laws.one_meaning.Goals as goal

pub returns : goal.returns
returns c = meaning.one_meaning c.args.«package».now c.package-package.ensures.guarded
