use Rattle.cs_instance_reasons.proofs.Labelled.{some_of_some}
use Rattle.cs_instance_reasons.proofs.near.alternatives.by_tag.Goals as goal

pub returns : goal.returns
returns c = some_of_some c.args.alternatives.items c.deref.result.now c.args.alternatives.items c.tagged.result c.deref.ensures.value (λ x k. k) c.tagged.ensures
