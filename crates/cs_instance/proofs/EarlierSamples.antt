-- What the first edition took for an instance, worked by the definitions. A wrong expectation stops the check here.
use Rattle.std.proofs.Common.{◌≡◌, ℕ, pos, Bool, true, false, List, [], ◌∷◌, map, codes, nat_eq, refl}
use Rattle.cs_document.specs.Document.{Document, Entry}
use Rattle.cs_document.specs.Opened.{Opened, a_null, a_boolean, an_integer, a_text, a_list, an_object}
use Rattle.cs_document.proofs.SampleDocuments.{number, array, map_of as object}
use Rattle.cs_package.specs.Environment.{Environment}
use Rattle.cs_package.specs.Expression as cue
use Rattle.cs_package.specs.Expression.{Declaration}
use Rattle.cs_instance.specs.Constraint.{nothing, simple, all_of, any_of, object_of, list_of, is_of_kind, admits, fields_hold}
use Rattle.cs_instance.specs.Earlier.{fields_hold_earlier, is_object_earlier, is_satisfied_earlier, IsEarlierRule, IsInstanceEarlier}
use Rattle.cs_instance.specs.Instance.{Rule, definition, node}
use Rattle.cs_instance.proofs.Rows as rows
use Rattle.cs_instance.proofs.Rows.{int, regular, every, end, closed, word}

-- ---- structs: a number is an instance of that number alone

abbrev declared : List ℕ → cue.DeclarationMark → ℕ → Declaration ℕ
declared l m n = record { label = l; mark = m; value = n }

-- `{a: 1, b?: 2}`, and `{[string]: 1}`
abbrev a_and_b : List (Declaration ℕ)
a_and_b = declared (codes "a") cue.regular 1 ∷ declared (codes "b") cue.optional 2 ∷ []

abbrev every_key : List (Declaration ℕ)
every_key = declared [] cue.every 1 ∷ []

-- {}, {"a":1}, {"a":2}, {"a":1,"b":2}, {"a":1,"b":1}, {"a":1,"c":1} and {"b":2}
abbrev members : List (List (Entry ℕ))
members =
    [] ∷ ((codes "a", 1) ∷ []) ∷ ((codes "a", 2) ∷ []) ∷ ((codes "a", 1) ∷ (codes "b", 2) ∷ []) ∷ ((codes "a", 1) ∷ (codes "b", 1) ∷ [])
    ∷ ((codes "a", 1) ∷ (codes "c", 1) ∷ []) ∷ ((codes "b", 2) ∷ []) ∷ []

closed_fields : map (fields_hold_earlier nat_eq a_and_b false) members ≡ false ∷ true ∷ false ∷ true ∷ false ∷ false ∷ false ∷ []
closed_fields = refl

opened_fields : map (fields_hold_earlier nat_eq a_and_b true) members ≡ false ∷ true ∷ false ∷ true ∷ false ∷ true ∷ false ∷ []
opened_fields = refl

required_field : map (fields_hold_earlier nat_eq (declared (codes "a") cue.required 1 ∷ []) true) members ≡ false ∷ true ∷ false ∷ true ∷ true ∷ true ∷ false ∷ []
required_field = refl

-- no declaration spoke of each key, as `[string]` does now
of_labels_alone : map (fields_hold_earlier nat_eq every_key false) members ≡ true ∷ false ∷ false ∷ false ∷ false ∷ false ∷ false ∷ []
of_labels_alone = refl

-- nor where other keys are allowed
of_labels_where_opened : map (fields_hold_earlier nat_eq every_key true) members ≡ true ∷ true ∷ true ∷ true ∷ true ∷ true ∷ true ∷ []
of_labels_where_opened = refl

of_each_key_now : map (fields_hold nat_eq every_key false) members ≡ true ∷ true ∷ false ∷ false ∷ true ∷ true ∷ false ∷ []
of_each_key_now = refl

-- ---- constraints

abbrev every_kind : List (Opened ℕ)
every_kind = a_null ∷ a_boolean true ∷ an_integer (pos 1) ∷ a_text (codes "a") ∷ a_list [] ∷ an_object [] ∷ []

-- `{...}` and `{a: 1}`
objects_alone : map (is_object_earlier nat_eq [] true) every_kind ≡ false ∷ false ∷ false ∷ false ∷ false ∷ true ∷ []
objects_alone = refl

-- a closed struct by its labels, and each other form as now: `_`, `_|_`, `null`, `1`, `string`, `&`, `|`, `{...}`, `{}` and `[]`
of_one : map (λ a. is_satisfied_earlier (λ b. b) nat_eq a (an_integer (pos 1))) (simple (admits cue.top) ∷ simple (admits cue.bottom) ∷ simple (admits cue.null) ∷ simple (admits (cue.integer (pos 1))) ∷ simple (is_of_kind cue.string) ∷ all_of (true ∷ false ∷ []) ∷ any_of (true ∷ false ∷ []) ∷ object_of [] true ∷ list_of [] nothing ∷ [])
    ≡ true ∷ false ∷ false ∷ true ∷ false ∷ false ∷ true ∷ false ∷ false ∷ []
of_one = refl

of_members : map (λ ms. is_satisfied_earlier (λ (b : Bool). b) nat_eq (object_of every_key false) (an_object ms)) members ≡ true ∷ false ∷ false ∷ false ∷ false ∷ false ∷ false ∷ []
of_members = refl

-- ---- rules

earlier_rules : IsEarlierRule (definition (codes "A")) × IsEarlierRule (node int) × IsEarlierRule (node (closed (regular (codes "a") int end)))
earlier_rules = (tt, tt, (tt, tt, tt))

-- `{[string]: int}`, and a list of such
later_rule : ¬ IsEarlierRule (node (closed (every int end)))
later_rule h = h.0

later_rule_inside : ¬ IsEarlierRule (node (rows.list_of [] (cue.each (closed (every int end)))))
later_rule_inside h = h.1.0

-- ---- instances

-- `#A: {a: int}`
abbrev a_is_int : cue.Expression
a_is_int = closed (regular (codes "a") int end)

abbrev declared_a : Environment
declared_a = rows.only (codes "A") a_is_int

module _ (I : Rule → Document → Bool) (was : IsInstanceEarlier declared_a I) where
  abbrev of_a : Document → Bool
  of_a x = I (definition (codes "A")) x

  abbrev a_of : Document → Document
  a_of x = object ((codes "a", x) ∷ [])

  admits_a_number : of_a (a_of (number 1)) ≡ true
  admits_a_number = rw (was (definition (codes "A")) (a_of (number 1)) tt, was (node a_is_int) (a_of (number 1)) (tt, tt, tt), was (node int) (number 1) tt) refl

  refuses_a_text : of_a (a_of (word (codes "s"))) ≡ false
  refuses_a_text = rw (was (definition (codes "A")) (a_of (word (codes "s"))) tt, was (node a_is_int) (a_of (word (codes "s"))) (tt, tt, tt), was (node int) (word (codes "s")) tt) refl

  refuses_nothing : of_a (object []) ≡ false
  refuses_nothing = rw (was (definition (codes "A")) (object []) tt, was (node a_is_int) (object []) (tt, tt, tt)) refl

  refuses_a_list : of_a (array []) ≡ false
  refuses_a_list = rw (was (definition (codes "A")) (array []) tt, was (node a_is_int) (array []) (tt, tt, tt)) refl

  undeclared : I (definition (codes "B")) (number 1) ≡ false
  undeclared = was (definition (codes "B")) (number 1) tt
