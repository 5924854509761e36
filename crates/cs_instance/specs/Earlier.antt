-- What an instance was in the profile's first edition, which had no `[string]: T`: a struct asked by its labels alone.
use Rattle.std.specs.Prelude.{◌≡◌, Bool, false, ◌&&◌, ◌||◌, List}
use Rattle.std.specs.List.{list_all, list_any}
use Rattle.std.specs.Str.{bytes_eq}
use Rattle.cs_document.specs.Document.{Document, Entry, under}
use Rattle.cs_document.specs.Opened.{Opened, a_null, a_boolean, an_integer, a_text, a_list, an_object, opened}
use Rattle.cs_package.specs.Environment.{Environment}
use Rattle.cs_package.specs.Expression.{Declaration}
use Rattle.cs_package.specs.Labels.{IsLabelled}
use Rattle.cs_instance.specs.Constraint.{Constraint, object_of, value_holds, is_satisfied}
use Rattle.cs_instance.specs.Instance.{Rule, definition, node, constraint_of}

module _ {A N : Type 0} (inside : A → N → Bool) where
  -- each declaration holds of what is under its label, and unless the literal is opened each key is the label of some
  -- declaration
  abbrev pub fields_hold_earlier : List (Declaration N) → Bool → List (Entry A) → Bool
  fields_hold_earlier ds opened ms =
      list_all (λ d. value_holds inside d (under d.label ms)) ds
      && (opened || list_all (λ (m : Entry A). list_any (λ (d : Declaration N). bytes_eq m.0 d.label) ds) ms)

  abbrev pub is_object_earlier : List (Declaration N) → Bool → Opened A → Bool
  is_object_earlier ds opened a_null = false
  is_object_earlier ds opened (a_boolean b) = false
  is_object_earlier ds opened (an_integer z) = false
  is_object_earlier ds opened (a_text s) = false
  is_object_earlier ds opened (a_list ys) = false
  is_object_earlier ds opened (an_object ms) = fields_hold_earlier ds opened ms

-- whether the document satisfies the constraint: every other form asks what it asks now
abbrev pub is_satisfied_earlier : {A D N : Type 0} → (D → Bool) → (A → N → Bool) → Constraint D N → Opened A → Bool
is_satisfied_earlier here inside (object_of ds opened) x = is_object_earlier inside ds opened x
is_satisfied_earlier here inside a x = is_satisfied here inside a x

-- a rule of the first edition
abbrev pub IsEarlierRule : Rule → Type 0
IsEarlierRule (definition n) = Unit {0}
IsEarlierRule (node e) = IsLabelled e

-- I was an instance relation of the environment: of the rules without `[string]`, of which alone it speaks
abbrev pub IsInstanceEarlier : Environment → (Rule → Document → Bool) → Type 0
IsInstanceEarlier E I = (r : Rule) (x : Document) → IsEarlierRule r → I r x ≡ is_satisfied_earlier (λ part. I part x) (λ y e. I (node e) y) (constraint_of E r) (opened x)
