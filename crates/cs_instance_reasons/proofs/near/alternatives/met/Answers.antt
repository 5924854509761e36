use Rattle.std.proofs.Common.{ap, ◌∙◌, subst, sym}
use Rattle.cs_instance_reasons.proofs.Tellings.{AreSomeOf, some_pushed}
use Rattle.cs_instance_reasons.proofs.near.alternatives.met.Goals as goal
use Rattle.cs_instance_reasons.proofs.near.alternatives.met.Goals.{in-Alternative+then-is_kept+in_ok-push, in_default}

pub loop-cause-preserved : goal.loop-cause-preserved
loop-cause-preserved c =
    elim c.match-cause.branch [
      | in-Alternative+then-is_kept+in_ok-push w ↦ some_pushed c.args.alternatives.now c.loop-cause.left.items c.match-cause.left.items c.loop-cause.cause-index _ c.loop-cause-test.true c.loop-cause.invariant (ap (λ v. v.items) w.left-is ∙ w.in_ok-push.ensures.items)
      | in_default w ↦ subst (λ v. AreSomeOf c.args.alternatives.now v.items) (sym w.left-is) c.loop-cause.invariant
    ]
