-- The path of a walk, and the cycle that it closes.
use Rattle.std.specs.Prelude.{◌≡◌, ℕ, List, [], ◌∷◌, ◌++◌, drop, ◌==◌, if◌then◌else◌}
use Rattle.std.specs.List.{position_or_len}
use Rattle.cs_graph.specs.Chains.{Chain}

-- each refers to the next
abbrev pub Links : {X : Type 0} → (X → X → Type 0) → List X → Type 0
Links R [] = Unit {0}
Links R (x ∷ xs) = Chain R x xs

-- the list from the first place of a number on
abbrev pub tail_from : ℕ → List ℕ → List ℕ
tail_from n ns = drop (position_or_len (λ m. m == n) ns) ns

-- the same, number by number
abbrev pub told : ℕ → List ℕ → ℕ → List ℕ
told n [] m = if m == n then m ∷ [] else []
told n (k ∷ ks) m = (k ∷ ks) ++ m ∷ []

-- the front of the one is behind in the other
pub record IsTurned (old new : List ℕ) : Type 0 where
  pub front : List ℕ
  pub back : List ℕ
  pub before : old ≡ front ++ back
  pub after : new ≡ back ++ front
