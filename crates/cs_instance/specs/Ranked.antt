-- Definitions by rank: each behind those that it refers to strongly.
use Rattle.std.specs.Prelude.{◌≡◌, ℕ, ◌<◌, List, map, flat_map, length, Contains, All}
use Rattle.std.specs.List.{AllByRecursion}
use Rattle.std.specs.List.Sorted.{IsNonDecreasingBy}
use Rattle.cs_package.specs.Environment.{Environment, declared_names}
use Rattle.cs_graph.specs.Chains.{On}
use Rattle.cs_guard.specs.References.{strong_of, direct_all}
use Rattle.cs_guard.specs.Reachable.{referred_of}
use Rattle.cs_guard.specs.Guarded.{IsHeight}
use Rattle.cs_guard.specs.Numbered.{name_of}
use Rattle.cs_instance.specs.declared.numbering.definitions.Placement.{Placement}
use Rattle.cs_instance.specs.Placing.{waiting, AreNumberedBy, IsKnown, bodies_of, placed_with, left_with}

-- the definition of that number has this rank
pub record IsRank (E : Environment) (i rank : ℕ) : Type 0 where
  pub within : i < length E
  pub height : IsHeight E (name_of E i) rank
  pub falls : (m : List ℕ) (h : ℕ) → Contains (strong_of E (name_of E i)) m → IsHeight E m h → h < rank

-- the names of ranked definitions, each a rank and a number
abbrev pub names_in : Environment → List (ℕ × ℕ) → List (List ℕ)
names_in E ds = map (λ d. name_of E d.1) ds

-- definitions with their ranks, by rank, and all that any of them refers to among them
pub record AreRanked (E : Environment) (ds : List (ℕ × ℕ)) : Type 0 where
  pub ranks : All (λ d. IsRank E d.1 d.0) ds
  pub sorted : IsNonDecreasingBy (λ d. d.0) ds
  pub closed : (n m : List ℕ) → On n (names_in E ds) → Contains (referred_of E n) m → On m (names_in E ds)

-- what the bodies of n refer to directly is among these
abbrev pub RefersBack : Environment → List (List ℕ) → List ℕ → Type 0
RefersBack E ns n = (m : List ℕ) → Contains (direct_all (bodies_of E n)) m → On m ns

-- the definitions of these names have their numbers, and what their bodies ask of documents inside waits
pub record ArePlacedBy (E : Environment) (ns : List (List ℕ)) (p : Placement) : Type 0 where
  pub long : length p.numbers.items ≡ length E
  pub numbered : AreNumberedBy E (declared_names E) (flat_map (placed_with E) ns) p.numberer
  pub waits : waiting (declared_names E) p.numberer ≡ flat_map (left_with E) ns
  pub known : AllByRecursion (IsKnown (declared_names E) p.numbers.items (flat_map (placed_with E) ns)) ns
