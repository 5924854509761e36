-- Constraints over numbers: each part is the place of a rule in a list of rules.
use Rattle.std.specs.Prelude.{◌≡◌, ℕ, ◌<◌, List, Some, map, length, slice_get, get_or}
use Rattle.std.specs.List.{AllByRecursion}
use Rattle.cs_package.specs.Expression.{atom, top, Declaration}
use Rattle.cs_package.specs.Environment.{Environment}
use Rattle.cs_instance.specs.Constraint.{Rest, nothing, anything, each, Constraint, simple, all_of, any_of, object_of, list_of}
use Rattle.cs_instance.specs.Instance.{Rule, node, constraint_of}

-- the same with g of each part
module _ {N M : Type 0} (g : N → M) where
  abbrev pub map_declaration : Declaration N → Declaration M
  map_declaration d = record { label = d.label; mark = d.mark; value = g d.value }

  abbrev pub map_rest : Rest N → Rest M
  map_rest nothing = nothing
  map_rest anything = anything
  map_rest (each e) = each (g e)

-- the same with f of each part asked of the same document, and g of each asked of a document inside
abbrev pub map_constraint : {C D M N : Type 0} → (C → D) → (M → N) → Constraint C M → Constraint D N
map_constraint f g (simple p) = simple p
map_constraint f g (all_of rs) = all_of (map f rs)
map_constraint f g (any_of rs) = any_of (map f rs)
map_constraint f g (object_of ds opened) = object_of (map (map_declaration g) ds) opened
map_constraint f g (list_of es rest) = list_of (map g es) (map_rest g rest)

abbrev pub RestBelow : ℕ → Rest ℕ → Type 0
RestBelow m nothing = Unit {0}
RestBelow m anything = Unit {0}
RestBelow m (each p) = p < m

-- each part asked of the same document is below n, and each asked of a document inside is below m
abbrev pub PartsBelow : ℕ → ℕ → Constraint ℕ ℕ → Type 0
PartsBelow n m (simple p) = Unit {0}
PartsBelow n m (all_of rs) = AllByRecursion (λ r. r < n) rs
PartsBelow n m (any_of rs) = AllByRecursion (λ r. r < n) rs
PartsBelow n m (object_of ds opened) = AllByRecursion (λ (d : Declaration ℕ). d.value < m) ds
PartsBelow n m (list_of es rest) = AllByRecursion (λ p. p < m) es × RestBelow m rest

-- the rule at a place
abbrev pub rule_at : List Rule → ℕ → Rule
rule_at rules r = get_or rules r (node (atom top))

-- for each rule what it asks, by the places of its parts in the list: those asked of the same document are before it
pub record IsNumbering (E : Environment) (rules : List Rule) (asked : List (Constraint ℕ ℕ)) : Type 0 where
  pub count : length asked ≡ length rules
  pub asks : (r : ℕ) (c : Constraint ℕ ℕ) → slice_get asked r ≡ Some c → map_constraint (λ part. part) node (constraint_of E (rule_at rules r)) ≡ map_constraint (rule_at rules) (rule_at rules) c
  pub below : (r : ℕ) (c : Constraint ℕ ℕ) → slice_get asked r ≡ Some c → PartsBelow r (length rules) c
