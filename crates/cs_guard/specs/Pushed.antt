-- Numbers of definitions, pushed behind others.
use Rattle.std.specs.Prelude.{◌≡◌, ℕ, ◌<◌, Bool, true, List, [], ◌++◌, map, get_or}
use Rattle.std.specs.List.{All}

-- the names that numbers stand for, where the names of the definitions are these
abbrev pub named : List (List ℕ) → List ℕ → List (List ℕ)
named ns is = map (λ i. get_or ns i []) is

-- behind the old numbers stand those of the names, and each is below a count where what was read is known below it
pub record Pushed (old new : List ℕ) (names : List (List ℕ) → List (List ℕ)) (known : ℕ → Bool) : Type 0 where
  pub behind : (ns : List (List ℕ)) → named ns new ≡ named ns old ++ names ns
  pub within : (count : ℕ) → known count ≡ true → All (λ i. i < count) old → All (λ i. i < count) new
