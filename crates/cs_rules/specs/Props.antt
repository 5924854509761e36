-- Facts about numbers of parts and about lengths are propositions.
use Rattle.std.proofs.Common.{ℕ, ◌<◌, List, [], ◌∷◌}
use Rattle.std.specs.List.{AllByRecursion as Each}
use mathlib.Core.HLevel.{×_prop, Unit-prop}
use native.Mathlib.Bridge.{le_prop}
use Rattle.std.proofs.Math.Nat.{ℕ_set}
use Rattle.cs_document.specs.Document.{Entry}
use Rattle.cs_document.specs.Opened.{Opened, a_null, a_boolean, an_integer, a_text, a_list, an_object}
use Rattle.cs_document.specs.Inside.{InsideBelow}
use Rattle.cs_rules.specs.Lengths.{AreLengths}

pub each_prop : {X : Type 0} (P : X → Type 0) → ((x : X) → IsProp (P x)) → (xs : List X) → IsProp (Each P xs)
each_prop P h [] = Unit-prop
each_prop P h (x ∷ xs) = ×_prop (h x) (each_prop P h xs)

pub below_prop : (n : ℕ) (ds : List ℕ) → IsProp (Each (λ d. d < n) ds)
below_prop n = each_prop (λ d. d < n) (λ d. le_prop)

pub inside_prop : (n : ℕ) (x : Opened ℕ) → IsProp (InsideBelow n x)
inside_prop n a_null = Unit-prop
inside_prop n (a_boolean b) = Unit-prop
inside_prop n (an_integer z) = Unit-prop
inside_prop n (a_text s) = Unit-prop
inside_prop n (a_list ys) = each_prop (λ y. y < n) (λ y. le_prop) ys
inside_prop n (an_object ms) = each_prop (λ (m : Entry ℕ). m.1 < n) (λ m. le_prop) ms

pub lengths_prop : (items : List (Opened ℕ)) (lengths : List ℕ) → IsProp (AreLengths items lengths)
lengths_prop items lengths = hlevel ℕ_set
