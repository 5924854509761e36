-- The longest chain of references from a number, by the heights.
use Rattle.std.specs.Prelude.{◌≡◌, ℕ, suc, ◌<◌, List, length, get_or}
use Rattle.cs_graph.specs.Chains.{On}
use Rattle.cs_graph.specs.Graph.{Graph, Refers}
use Rattle.cs_graph.specs.Paths.{Links}

-- each of these numbers refers to the next, and there is one more than the first is high
pub record IsDescent (G : Graph) (heights : List ℕ) (first : ℕ) (ns : List ℕ) : Type 0 where
  pub links : Links (Refers G) ns
  pub inside : (n : ℕ) → On n ns → n < length G
  pub long : length ns ≡ suc (get_or heights first 0)
