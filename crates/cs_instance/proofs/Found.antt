-- What asks of elements answers no where a place is left.
use Rattle.std.proofs.Common.{◌≡◌, ℕ, zero, suc, ◌<◌, false, List, [], ◌∷◌, length, drop, Bool, refl, arith}
use Rattle.cs_instance.specs.Constraint.{Rest, elements_hold}

-- a place is left, and no element
pub none_left : {A N : Type 0} (inside : A → N → Bool) (front : List N) (rest : Rest N) (ys : List A) (i : ℕ) → i < length front → length ys ≡ 0 → elements_hold inside (drop i front) rest ys ≡ false
none_left inside [] rest ys i l e = absurd (omega arith)
none_left inside (p ∷ ps) rest [] zero l e = refl
none_left inside (p ∷ ps) rest (y ∷ ys) zero l e = absurd (omega arith)
none_left inside (p ∷ ps) rest ys (suc i) l e = none_left inside ps rest ys i (omega arith) e
