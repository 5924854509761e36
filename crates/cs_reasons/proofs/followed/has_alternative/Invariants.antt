use Rattle.std.proofs.Common.{◌≡◌, ℕ, ◌<◌, false, Some}
use Rattle.std.specs.Prelude.{slice_get}
use Rattle.cs_reasons.proofs.followed.has_alternative.Given as goal

-- no cause before this one is an alternative
abbrev pub invariant-loop-cause : goal.invariant-loop-cause
invariant-loop-cause g l = (k : ℕ) (c : g.row.C.Denot) → k < l.cause-index → slice_get l.causes k ≡ Some c → g.C.Cause.is_alternative c ≡ false
