-- Scalars that rules can't tell apart: what rules compare scalars with, and when that makes no difference.
use Rattle.std.specs.Prelude.{◌≡◌, ℕ, nat_le, ℤ, int_lt, Bool, List, ◌++◌}
use Rattle.std.specs.List.{AllByRecursion}
use Rattle.std.specs.Str.{bytes_eq}
use Rattle.cs_document.specs.Document.{Document}
use Rattle.cs_document.specs.Opened.{Opened, a_null, a_boolean, an_integer, a_text}
use Rattle.cs_document.specs.Sizes.{text_length}
use Rattle.cs_rules.specs.Steps.{Step}
use Rattle.cs_rules.specs.Kinds.{IsItem}

-- what rules compare scalars with, and the lengths of texts with: the marks
pub record Compared : Type 0 where
  pub texts : List (List ℕ)
  pub integers : List ℤ
  pub lengths : List ℕ

-- no mark tells two scalars apart; a list or a map is like nothing
abbrev pub AreAlike : Compared → Opened ℕ → Opened ℕ → Type 0
AreAlike m a_null a_null = Unit {0}
AreAlike m (a_boolean b) (a_boolean c) = b ≡ c
AreAlike m (an_integer z) (an_integer w) = AllByRecursion (λ k. (int_lt z k ≡ int_lt w k) × (int_lt k z ≡ int_lt k w)) m.integers
AreAlike m (a_text s) (a_text t) = AllByRecursion (λ u. bytes_eq u s ≡ bytes_eq u t) m.texts × AllByRecursion (λ k. nat_le k (text_length s) ≡ nat_le k (text_length t)) m.lengths
AreAlike m _ _ = ⊥

-- a step gives the same for scalars that no mark tells apart, where the verdicts on the value itself are the same
abbrev pub IsToldBy : Step → Compared → Type 0
IsToldBy step m =
    (here : ℕ → Bool) (inside inside' : ℕ → ℕ → Bool) (d d' : Document) (x x' : Opened ℕ) → IsItem d x → IsItem d' x' → AreAlike m x x'
    → step here inside d x ≡ step here inside' d' x'

-- there may be more marks behind those
abbrev pub HasMore : Compared → Compared → Type 0
HasMore m n = (ts : List (List ℕ)) × (zs : List ℤ) × (ls : List ℕ) × (n.texts ≡ m.texts ++ ts) × (n.integers ≡ m.integers ++ zs) × (n.lengths ≡ m.lengths ++ ls)
