-- Environments whose recursion is guarded (CUE language specification, "Structural cycles"; the bound is an own rule).
use Rattle.std.specs.Prelude.{ℕ, List}
use Rattle.cs_package.specs.Environment.{Environment}
use Rattle.cs_graph.specs.Chains as general
use Rattle.cs_guard.specs.Limits as limits
use Rattle.cs_guard.specs.References.{RefersStrongly}

-- from n on, each name refers strongly to the next; a chain's length is the number of its references; for proofs alone
abbrev pub Chain : Environment → List ℕ → List (List ℕ) → Type 0
Chain E = general.Chain (RefersStrongly E)

-- no cycle of strong references, and no chain of more of them than may be
abbrev pub IsGuarded : Environment → Type 0
IsGuarded E = limits.IsGuarded (RefersStrongly E)

-- the longest chain from n has this length
abbrev pub IsHeight : Environment → List ℕ → ℕ → Type 0
IsHeight E = general.IsHeight (RefersStrongly E)
