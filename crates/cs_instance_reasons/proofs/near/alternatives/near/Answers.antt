use Rattle.cs_instance_reasons.proofs.Labelled.{some_of_some}
use Rattle.cs_instance_reasons.proofs.near.alternatives.near.Goals as goal

pub returns-in-Object : goal.returns-in-Object
returns-in-Object c = some_of_some c.args.alternatives.now c.deref-in-Object-2.result.now c.in_ok-chosen-in-Object.chosen.items c.met.result c.deref-in-Object-2.ensures.value (λ x k. c.in_ok-left.ensures x (c.in_ok-chosen-in-Object.ensures x k)) c.met.ensures
