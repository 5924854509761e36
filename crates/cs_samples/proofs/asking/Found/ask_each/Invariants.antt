use Rattle.cs_samples.specs.Kept.{AreFound}
use Rattle.cs_samples.proofs.asking.Found.ask_each.Given as goal

abbrev pub invariant-loop-place : goal.invariant-loop-place
invariant-loop-place l = AreFound l.asking l.self
