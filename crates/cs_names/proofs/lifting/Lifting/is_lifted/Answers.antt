use Rattle.cs_names.specs.Lifted as Spec
use Rattle.cs_names.proofs.lifting.Lifting.is_lifted.Goals as goal

pub returns : goal.returns
returns c all ts told = c.is_given.ensures all (Spec.is_lifted ts) told.names
