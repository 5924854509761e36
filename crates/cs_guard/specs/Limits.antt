-- How long chains of references may be, and what is guarded, for any relation R.
use Rattle.std.specs.Prelude.{ℕ, ◌≤◌, List, length}
use Rattle.cs_graph.specs.Chains.{Chain, NoCycle}

-- how many references a chain may have
abbrev pub most_references : ℕ
most_references = 64

-- no cycle, and no chain that is too long
pub record IsGuarded {X : Type 0} (R : X → X → Type 0) : Type 0 where
  pub no_cycle : NoCycle R
  pub short : (x : X) (xs : List X) → Chain R x xs → length xs ≤ most_references
