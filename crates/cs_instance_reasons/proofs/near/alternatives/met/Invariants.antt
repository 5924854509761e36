use Rattle.std.proofs.Common.{Contains}
use Rattle.cs_instance_reasons.specs.declared.cause.InstanceCause.{InstanceCause}
use Rattle.cs_instance_reasons.proofs.near.alternatives.met.Given as goal

abbrev pub invariant-loop-cause : goal.invariant-loop-cause
invariant-loop-cause l = (c : InstanceCause) → Contains l.left.items c → Contains l.alternatives c
