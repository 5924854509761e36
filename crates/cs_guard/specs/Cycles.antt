-- What is refused: cycles of strong references, and chains that are too long (CUE language specification,
-- "Structural cycles"; the bound, and which cycle is told in which order, are own rules).
use Rattle.std.specs.Prelude.{◌≡◌, ℕ, ◌≤◌, List, [], ◌∷◌, Some, map, Contains, string_bytes}
use Rattle.std.specs.List.{IsDistinct}
use Rattle.std.specs.Str.{bytes_eq}
use Rattle.cs_package.specs.Environment.{Environment, name_at, written}
use Rattle.cs_graph.specs.Chains as general
use Rattle.cs_guard.specs.LongChains as long
use Rattle.cs_guard.specs.References.{RefersStrongly}
use Rattle.cs_guard.specs.declared.fault.GuardFault.{GuardFault}
use Rattle.cs_guard.specs.declared.fault.GuardFault.TheVariants.{OutOfMemory, Cycle, ChainTooLong}

-- the first is declared before the others
abbrev pub IsEarliestFirst : Environment → List (List ℕ) → Type 0
IsEarliestFirst E [] = Unit {0}
IsEarliestFirst E (n ∷ ns) = (i j : ℕ) (m : List ℕ) → Contains ns m → name_at E i ≡ Some n → name_at E j ≡ Some m → i ≤ j

-- a cycle of strong references, no name twice, told from the name on that is declared first
pub record IsCycle (E : Environment) (ns : List (List ℕ)) : Type 0 where
  pub closed : general.IsClosed (RefersStrongly E) ns
  pub distinct : IsDistinct bytes_eq ns
  pub earliest : IsEarliestFirst E ns

-- there is no cycle, and the names are a chain of more strong references than may be: each refers strongly to the next
abbrev pub IsTooDeep : Environment → List (List ℕ) → Type 0
IsTooDeep E = long.IsTooDeep (RefersStrongly E)

-- what is refused: a cycle, or a chain that is too long where there is no cycle, both told by their names as CUE writes them
abbrev pub IsRefusal : GuardFault → Environment → Type 0
IsRefusal OutOfMemory E = Unit {0}
IsRefusal (Cycle texts) E = (ns : List (List ℕ)) × (map string_bytes texts.items ≡ map written ns) × IsCycle E ns
IsRefusal (ChainTooLong texts) E = (ns : List (List ℕ)) × (map string_bytes texts.items ≡ map written ns) × IsTooDeep E ns
