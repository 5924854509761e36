-- What a rule asks of a value: a step over the verdicts on the rule's parts.
use Rattle.std.specs.Prelude.{◌≡◌, ℕ, ◌<◌, Bool, List, Some, length, slice_get}
use Rattle.std.specs.List.{AllByRecursion}
use Rattle.cs_document.specs.Document.{Document}
use Rattle.cs_document.specs.Opened.{Opened}
use Rattle.cs_document.specs.Inside.{InsideBelow}

-- the verdict on a value, opened once, by those on the value itself and those on the values inside it. A part that is
-- asked of the value itself is the number of a rule, and one that is asked of a value inside a place in a list of such
-- numbers
abbrev pub Step : Type 0
Step = (ℕ → Bool) → (ℕ → ℕ → Bool) → Document → Opened ℕ → Bool

-- a step with parts below r and m gives the same by verdicts that agree on them, where values inside are below i
abbrev pub LooksAtParts : (ℕ → ℕ → Type 0) → Step → Type 0
LooksAtParts below step =
    (i r m : ℕ) (here here' : ℕ → Bool) (inside inside' : ℕ → ℕ → Bool)
    → ((q : ℕ) → q < r → here q ≡ here' q) → ((y p : ℕ) → y < i → p < m → inside y p ≡ inside' y p)
    → (d : Document) (x : Opened ℕ) → below r m → InsideBelow i x → step here inside d x ≡ step here' inside' d x

-- each rule names earlier rules and places of `children`, and these name rules
pub record ArePlaced {R : Type 0} (below : R → ℕ → ℕ → Type 0) (rules : List R) (children : List ℕ) : Type 0 where
  pub parts : (r : ℕ) (x : R) → slice_get rules r ≡ Some x → below x r (length children)
  pub inside : AllByRecursion (λ q. q < length rules) children

-- each item names earlier items
abbrev pub AreLower : List (Opened ℕ) → Type 0
AreLower items = (i : ℕ) (x : Opened ℕ) → slice_get items i ≡ Some x → InsideBelow i x
