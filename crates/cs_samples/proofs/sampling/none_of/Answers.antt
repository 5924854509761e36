use Rattle.std.proofs.Common.{◌≡◌, Bool, true, false, refl, ap}
use Rattle.std.specs.Option.{is_some}
use Rattle.cs_instance.specs.Instance.{definition}
use Rattle.cs_samples.proofs.sampling.none_of.Goals as goal

is_false : (b : Bool) → (b ≡ true → ⊥) → b ≡ false
is_false true h = absurd (h refl)
is_false false h = refl

pub returns-in-None-clause-without : goal.returns-in-None-clause-without
returns-in-None-clause-without c = λ valid asked I n x is named fits.
    is_false (I (definition n) x) (λ holds. c.in_ok-instance_of.ensures.none (ap is_some c.in-None.is) I n x is named fits ((holds, tt), tt))
