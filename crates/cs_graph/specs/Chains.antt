-- Chains, cycles and heights. Whether one thing refers to another is a relation R.
use Rattle.std.specs.Prelude.{◌≡◌, ℕ, ◌≤◌, List, [], ◌∷◌, ◌++◌, length, ◌⊎◌}

-- x is in the list
abbrev pub On : {X : Type 0} → X → List X → Type 0
On x [] = ⊥
On x (y ∷ ys) = (x ≡ y) ⊎ On x ys

-- none stands twice
abbrev pub Distinct : {X : Type 0} → List X → Type 0
Distinct [] = Unit {0}
Distinct (x ∷ xs) = (On x xs → ⊥) × Distinct xs

-- from x on, each refers to the next; the chain's length is that of the list
abbrev pub Chain : {X : Type 0} → (X → X → Type 0) → X → List X → Type 0
Chain R x [] = Unit {0}
Chain R x (y ∷ ys) = R x y × Chain R y ys

-- each refers to the next, and the last to the first
abbrev pub IsClosed : {X : Type 0} → (X → X → Type 0) → List X → Type 0
IsClosed R [] = ⊥
IsClosed R (x ∷ xs) = Chain R x (xs ++ x ∷ [])

-- each refers to the next and the last to the first, and none stands twice
abbrev pub IsCycle : {X : Type 0} → (X → X → Type 0) → List X → Type 0
IsCycle R xs = IsClosed R xs × Distinct xs

-- there is no chain from any x back to x
abbrev pub NoCycle : {X : Type 0} → (X → X → Type 0) → Type 0
NoCycle {X} R = (x : X) (xs : List X) → Chain R x (xs ++ x ∷ []) → ⊥

-- the longest chain from x has this length
pub record IsHeight {X : Type 0} (R : X → X → Type 0) (x : X) (height : ℕ) : Type 0 where
  pub steps : List X
  pub chain : Chain R x steps
  pub long : length steps ≡ height
  pub longest : (xs : List X) → Chain R x xs → length xs ≤ height
