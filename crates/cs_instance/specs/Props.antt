-- Facts about the numbers of parts.
use Rattle.std.proofs.Common.{ℕ, ◌<◌, ◌≤◌, lt_of_lt_of_le}
use mathlib.Core.HLevel.{×_prop, Unit-prop}
use native.Mathlib.Bridge.{le_prop}
use Rattle.cs_document.proofs.Each.{each_map}
use Rattle.cs_rules.specs.Props.{each_prop, below_prop}
use Rattle.cs_package.specs.Expression.{Declaration}
use Rattle.cs_instance.specs.Constraint.{Rest, nothing, anything, each, Constraint, simple, all_of, any_of, object_of, list_of}
use Rattle.cs_instance.specs.Numbering.{PartsBelow, RestBelow}

rest_prop : (m : ℕ) (r : Rest ℕ) → IsProp (RestBelow m r)
rest_prop m nothing = Unit-prop
rest_prop m anything = Unit-prop
rest_prop m (each p) = le_prop

pub parts_prop : (n m : ℕ) (a : Constraint ℕ ℕ) → IsProp (PartsBelow n m a)
parts_prop n m (simple p) = Unit-prop
parts_prop n m (all_of ds) = below_prop n ds
parts_prop n m (any_of ds) = below_prop n ds
parts_prop n m (object_of ds o) = each_prop (λ (d : Declaration ℕ). d.value < m) (λ d. le_prop) ds
parts_prop n m (list_of es rest) = ×_prop (below_prop m es) (rest_prop m rest)

-- parts that are below two numbers are below greater ones
rest_weaker : (m m' : ℕ) → m ≤ m' → (r : Rest ℕ) → RestBelow m r → RestBelow m' r
rest_weaker m m' l nothing b = tt
rest_weaker m m' l anything b = tt
rest_weaker m m' l (each p) b = lt_of_lt_of_le b l

pub parts_weaker : (n m n' m' : ℕ) → n ≤ n' → m ≤ m' → (a : Constraint ℕ ℕ) → PartsBelow n m a → PartsBelow n' m' a
parts_weaker n m n' m' h l (all_of ds) b = each_map (λ r. r < n) (λ r. r < n') (λ r c. lt_of_lt_of_le c h) ds b
parts_weaker n m n' m' h l (any_of ds) b = each_map (λ r. r < n) (λ r. r < n') (λ r c. lt_of_lt_of_le c h) ds b
parts_weaker n m n' m' h l (object_of ds o) b = each_map (λ (d : Declaration ℕ). d.value < m) (λ (d : Declaration ℕ). d.value < m') (λ d c. lt_of_lt_of_le c l) ds b
parts_weaker n m n' m' h l (list_of es rest) b = (each_map (λ p. p < m) (λ p. p < m') (λ p c. lt_of_lt_of_le c l) es b.0, rest_weaker m m' l rest b.1)
parts_weaker n m n' m' h l (simple p) b = tt
