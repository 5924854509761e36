use Rattle.std.proofs.Common.{subst}
use Rattle.cs_instance_reasons.proofs.Tellings.{AreSomeOf}
use Rattle.cs_instance_reasons.proofs.graph.InstanceGraphChooses.keep_near.Goals as goal

pub returns : goal.returns
returns c = subst (λ xs. AreSomeOf xs c.in_ok-alternatives.field-0.items) c.deref.ensures.value c.in_ok-alternatives.ensures
