-- Which chains of references are too long, for any relation R.
use Rattle.std.specs.Prelude.{◌<◌, List, [], ◌∷◌, length}
use Rattle.cs_graph.specs.Chains.{Chain, NoCycle}
use Rattle.cs_guard.specs.Limits.{most_references}

-- each refers to the next, by more references than a chain may have
abbrev pub IsLongChain : {X : Type 0} → (X → X → Type 0) → List X → Type 0
IsLongChain R [] = ⊥
IsLongChain R (x ∷ xs) = Chain R x xs × (most_references < length xs)

-- no cycle, and these are a chain that is too long
abbrev pub IsTooDeep : {X : Type 0} → (X → X → Type 0) → List X → Type 0
IsTooDeep R xs = NoCycle R × IsLongChain R xs
