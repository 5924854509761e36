use Rattle.cs_reasons.specs.Followed.{AreAlternatives}
use Rattle.cs_reasons.proofs.choosing.keep_alternatives.Given as goal

-- what was found are alternatives
abbrev pub invariant-loop-cause : goal.invariant-loop-cause
invariant-loop-cause g l = AreAlternatives g.C.Cause.leads_to g.C.Cause.is_alternative l.causes l.found.items
