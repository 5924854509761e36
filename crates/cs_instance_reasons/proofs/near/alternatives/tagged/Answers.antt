use Rattle.std.proofs.Common.{ap, ◌∙◌, subst, sym}
use Rattle.cs_instance_reasons.proofs.Tellings.{AreSomeOf, some_pushed}
use Rattle.cs_instance_reasons.proofs.near.alternatives.tagged.Goals as goal
use Rattle.cs_instance_reasons.proofs.near.alternatives.tagged.Goals.{then-asks_for+in_ok-push, else-asks_for}

pub loop-place-preserved : goal.loop-place-preserved
loop-place-preserved c =
    elim c.if-asks_for.branch [
      | then-asks_for+in_ok-push w ↦ some_pushed c.args.alternatives.now c.loop-place.left.items c.if-asks_for.left.items c.loop-place.place _ c.loop-place-test.true c.loop-place.invariant (ap (λ v. v.items) w.left-is ∙ w.in_ok-push.ensures.items)
      | else-asks_for w ↦ subst (λ v. AreSomeOf c.args.alternatives.now v.items) (sym w.left-is) c.loop-place.invariant
    ]
