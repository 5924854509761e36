-- What a guarded package keeps.
use Rattle.std.specs.Prelude.{◌≡◌, ℕ, List, length, get_or, Some}
use Rattle.cs_package.specs.Environment.{Environment, name_at}
use Rattle.cs_guard.specs.Guarded.{IsGuarded, IsHeight}

-- it is guarded, and the number at a definition's place is its height
pub record AreRanks (E : Environment) (ranks : List ℕ) : Type 0 where
  pub guarded : IsGuarded E
  pub long : length ranks ≡ length E
  pub heights : (i : ℕ) (n : List ℕ) → name_at E i ≡ Some n → IsHeight E n (get_or ranks i 0)
