use Rattle.std.proofs.Common.{Contains}
use Rattle.cs_instance_reasons.specs.declared.cause.InstanceCause.{InstanceCause}
use Rattle.cs_instance_reasons.proofs.near.alternatives.tagged.Given as goal

abbrev pub invariant-loop-place : goal.invariant-loop-place
invariant-loop-place l = (c : InstanceCause) → Contains l.left.items c → Contains l.alternatives c
