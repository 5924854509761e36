-- References between numbers. A graph has, for each number, the numbers that it refers to.
use Rattle.std.specs.Prelude.{◌≡◌, ℕ, ◌<◌, ◌≤◌, List, [], ◌∷◌, Some, map, length, slice_get, get_or, Vec}
use Rattle.std.specs.declared.alloc.Global.{Global}
use Rattle.cs_graph.specs.Chains.{On, IsCycle, IsHeight}
use Rattle.cs_graph.specs.declared.fault.GraphFault.{GraphFault}
use Rattle.cs_graph.specs.declared.fault.GraphFault.TheVariants.{OutOfMemory, Cycle}

abbrev pub Graph : Type 0
Graph = List (List ℕ)

abbrev pub graph_of : List (Vec ℕ Global) → Graph
graph_of vs = map (λ v. v.items) vs

-- n refers to m
pub record Refers (G : Graph) (n m : ℕ) : Type 0 where
  pub row : List ℕ
  pub found : slice_get G n ≡ Some row
  pub on : On m row

-- each number that is referred to is one of the graph
abbrev pub Within : Graph → Type 0
Within G = (n m : ℕ) → Refers G n m → m < length G

-- no number is below the first
abbrev pub IsLowestFirst : List ℕ → Type 0
IsLowestFirst [] = Unit {0}
IsLowestFirst (n ∷ ns) = (m : ℕ) → On m ns → n ≤ m

-- each refers to the next and the last to the first, none stands twice, and the lowest is first
pub record IsLowestCycle (G : Graph) (ns : List ℕ) : Type 0 where
  pub cycle : IsCycle (Refers G) ns
  pub lowest : IsLowestFirst ns

-- each number has its height
pub record AreHeights (G : Graph) (heights : List ℕ) : Type 0 where
  pub long : length heights ≡ length G
  pub each : (n : ℕ) → n < length G → IsHeight (Refers G) n (get_or heights n 0)

-- each number is higher than those that it refers to
abbrev pub FallAlong : Graph → List ℕ → Type 0
FallAlong G heights = (n m : ℕ) → Refers G n m → get_or heights m 0 < get_or heights n 0

-- what a refusal says: its numbers are a cycle
abbrev pub IsRefusal : GraphFault → Graph → Type 0
IsRefusal OutOfMemory G = Unit {0}
IsRefusal (Cycle v) G = IsLowestCycle G v.items
