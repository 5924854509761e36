-- What a rule of the code asks, by the numbers of its parts.
use Rattle.std.specs.Prelude.{ℕ, ◌<◌, Bool, false, List, [], map, slice_index}
use Rattle.std.specs.List.{AllByRecursion}
use Rattle.cs_document.specs.Document.{Entry}
use Rattle.cs_rules.specs.Steps.{Step}
use Rattle.cs_package.specs.Expression.{Expression, atom, kind, range, Declaration}
use Rattle.cs_package.specs.View.{expression_of, mark_of}
use Rattle.cs_instance.specs.Constraint.{Rest, nothing, anything, each, Outline, Constraint, simple, all_of, any_of, object_of, list_of, is_of_kind, is_integer, is_within, admits, is_satisfied}
use Rattle.cs_instance.specs.Numbering.{map_declaration, map_constraint}
use Rattle.cs_instance.specs.declared.rules.Rule.{Rule}
use Rattle.cs_instance.specs.declared.rules.Rule.TheVariants as rule
use Rattle.cs_instance.specs.declared.rules.Field.{Field}
use Rattle.cs_instance.specs.declared.rules.Ending.{Ending}
use Rattle.cs_instance.specs.declared.rules.Ending.TheVariants as ending

abbrev pub field_of : Field → Declaration ℕ
field_of f = record { label = f.label.now; mark = mark_of f.mark; value = f.value }

abbrev pub ending_of : Ending → Rest ℕ
ending_of ending.Closed = nothing
ending_of ending.Any = anything
ending_of (ending.Each p) = each p

-- the test of an expression that looks at no part; the others have none
abbrev pub test_of : Expression → Outline → Bool
test_of (atom a) x = admits a x
test_of (kind k) x = is_of_kind k x
test_of (range least greatest) x = is_integer (is_within least greatest) x
test_of _ x = false

-- what a rule asks; a part asked of a document inside is a place in another list
abbrev pub asked_of : Rule → Constraint ℕ ℕ
asked_of (rule.Simple s) = simple (test_of (expression_of [] s.now))
asked_of (rule.All v) = all_of v.items
asked_of (rule.Any v) = any_of v.items
asked_of (rule.Struct fs opened) = object_of (map field_of fs.all.items) opened
asked_of (rule.List v end) = list_of v.items (ending_of end)

-- the same, with the numbers that are in that list
abbrev pub numbered : List ℕ → Rule → Constraint ℕ ℕ
numbered inner r = map_constraint (λ k. k) (slice_index inner) (asked_of r)

abbrev pub numbered_field : List ℕ → Field → Declaration ℕ
numbered_field inner f = map_declaration (slice_index inner) (field_of f)

abbrev pub numbered_fields : List ℕ → List Field → List (Declaration ℕ)
numbered_fields inner fs = map (map_declaration (slice_index inner)) (map field_of fs)

-- the verdict on a value, by those on the parts
abbrev pub step : Rule → Step
step r here inside d x = is_satisfied here inside (asked_of r) x

-- the values of a map are below n, and the places of declared values below m
abbrev pub ValuesBelow : ℕ → List (Entry ℕ) → Type 0
ValuesBelow n ms = AllByRecursion (λ (e : Entry ℕ). e.1 < n) ms

abbrev pub PlacesBelow : ℕ → List (Declaration ℕ) → Type 0
PlacesBelow m ds = AllByRecursion (λ (d : Declaration ℕ). d.value < m) ds
