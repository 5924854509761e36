use Rattle.std.proofs.Common.{◌≡◌, ℕ, ◌++◌, drop}
use Rattle.cs_rules.specs.Knowns.{verdict_here}
use Rattle.cs_instance_reasons.specs.CauseLists.{told_from, unless}
use Rattle.cs_instance_reasons.specs.declared.cause.InstanceCause.TheVariants.{Alternative}
use Rattle.cs_instance_reasons.proofs.causes.parts.tell_alternatives.Given as goal

abbrev pub invariant-loop-place : goal.invariant-loop-place
invariant-loop-place l =
    let tell = λ (k q : ℕ). unless (verdict_here l.known q) (Alternative l.known.item q k) in
    l.found.items ++ told_from tell l.place (drop l.place l.alternatives) ≡ l.fn.found.items ++ told_from tell 0 l.alternatives
