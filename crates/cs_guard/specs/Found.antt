-- Numbers in the order in which they were found, and a mark at each of them.
use Rattle.std.specs.Prelude.{◌≡◌, ℕ, Bool, true, List, ◌++◌, Some, length, slice_get}
use Rattle.std.specs.List.{count_by}
use Rattle.cs_graph.specs.Chains.{On, Distinct}

-- none stands twice, and just they are marked
pub record Marked (seen : List Bool) (order : List ℕ) : Type 0 where
  pub distinct : Distinct order
  pub on : (i : ℕ) → On i order → slice_get seen i ≡ Some true
  pub marked : (i : ℕ) → slice_get seen i ≡ Some true → On i order
  pub many : count_by (λ b. b) seen ≡ length order

-- these are found too: each that is new is behind the old ones
pub record Added (numbers : List ℕ) (old : List Bool) (order : List ℕ) (new : List Bool) (longer : List ℕ) : Type 0 where
  pub marked : Marked new longer
  pub long : length new ≡ length old
  pub more : List ℕ
  pub behind : longer ≡ order ++ more
  pub only : (i : ℕ) → On i more → On i numbers
  pub each : (i : ℕ) → On i numbers → On i longer
