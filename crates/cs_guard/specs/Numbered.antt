-- Definitions by their numbers, which are their places in the environment.
use Rattle.std.specs.Prelude.{◌≡◌, ℕ, List, [], Some, map, length, slice_get}
use Rattle.std.specs.Option.{unwrap_or}
use Rattle.cs_package.specs.Environment.{Environment, name_at}
use Rattle.cs_graph.specs.Graph.{Graph, Within}
use Rattle.cs_guard.specs.References.{strong_of}

-- the name of that number
abbrev pub name_of : Environment → ℕ → List ℕ
name_of E i = unwrap_or (name_at E i) []

-- for each definition, the numbers of those that its bodies refer to strongly; for private contracts alone
pub record IsGraphOf (E : Environment) (G : Graph) : Type 0 where
  pub long : length G ≡ length E
  pub within : Within G
  pub rows : (i : ℕ) (row : List ℕ) → slice_get G i ≡ Some row → map (name_of E) row ≡ strong_of E (name_of E i)
