-- Rules numbered one after another, as long as some expressions wait for their numbers.
use Rattle.std.specs.Prelude.{◌≡◌, ℕ, ◌<◌, List, [], ◌∷◌, ◌++◌, Some, length, map, take, drop, flat_map, unwrap_or, slice_get, slice_index, get_or}
use Rattle.std.specs.List.Sorted.{IsPermutation}
use Rattle.std.specs.List.{AllByRecursion}
use Rattle.cs_package.specs.Expression as cue
use Rattle.cs_package.specs.Expression.{Expression, Expressions, Declaration, operands, declarations}
use Rattle.cs_package.specs.Environment.{Environment, bodies}
use Rattle.cs_package.specs.View.{expression_of, expressions_of, part_of, rest_of as end_of}
use Rattle.cs_package.specs.declared.shape.Shape.{Shape}
use Rattle.cs_package.specs.declared.shape.ShapeEnd.{ShapeEnd}
use Rattle.cs_package.specs.declared.shape.Part.{Part}
use Rattle.cs_guard.specs.References.{direct, direct_all}
use Rattle.cs_guard.specs.Reachable.{referred}
use Rattle.cs_rules.specs.declared.numberer.Numberer.{Numberer}
use Rattle.cs_instance.specs.Instance.{Rule, definition, node, rest_of, constraint_of}
use Rattle.cs_instance.specs.Numbering.{map_declaration, map_rest, map_constraint, PartsBelow, RestBelow, rule_at}
use Rattle.cs_instance.specs.Rules.{subexpressions}
use Rattle.cs_instance.specs.declared.rules.Rule.{Rule as Coded}
use Rattle.cs_instance.specs.declared.rules.Field.{Field}
use Rattle.cs_instance.specs.declared.rules.Ending.{Ending}
use Rattle.cs_instance.specs.Steps.{asked_of, field_of, ending_of, PlacesBelow}

-- an expression and a list of them, with the definitions named
abbrev pub named : Shape → List (List ℕ) → Expression
named s names = expression_of names s

abbrev pub named_all : List Shape → List (List ℕ) → Expressions
named_all ss names = expressions_of (map (expression_of names) ss)

-- the expressions that wait
abbrev pub waiting : List (List ℕ) → Numberer Shape Coded → List Expression
waiting names n = map (λ b. expression_of names b.now) n.pending.items

abbrev pub expression_at : List Expression → ℕ → Expression
expression_at es p = get_or es p (cue.atom cue.top)

-- these rules have numbers, each after those that it asks of the same document; those of documents inside are places
-- of what waits
pub record AreNumbered (E : Environment) (placed : List Rule) (pending : List Expression) (rules : List Coded) : Type 0 where
  pub sizes : length rules ≡ length placed
  pub asks : (r : ℕ) (x : Coded) → slice_get rules r ≡ Some x → constraint_of E (rule_at placed r) ≡ map_constraint (rule_at placed) (expression_at pending) (asked_of x)
  pub parts : (r : ℕ) (x : Coded) → slice_get rules r ≡ Some x → PartsBelow r (length pending) (asked_of x)

-- so are those of the numberer
abbrev pub AreNumberedBy : Environment → List (List ℕ) → List Rule → Numberer Shape Coded → Type 0
AreNumberedBy E names placed n = AreNumbered E placed (waiting names n) n.rules.items

-- these are the numbers of these expressions
abbrev pub AreAt : List Rule → List ℕ → List Expression → Type 0
AreAt placed numbers es = (map (rule_at placed) numbers ≡ map node es) × AllByRecursion (λ k. k < length placed) numbers

-- what gets a number with an expression: what it asks of the same document, and itself
abbrev mutual
  pub placed_by : Expression → List Rule
  placed_by (cue.atom a) = node (cue.atom a) ∷ []
  placed_by (cue.kind k) = node (cue.kind k) ∷ []
  placed_by (cue.range least greatest) = node (cue.range least greatest) ∷ []
  placed_by (cue.reference n) = node (cue.reference n) ∷ []
  placed_by (cue.conjunction es) = placed_by_all es ++ node (cue.conjunction es) ∷ []
  placed_by (cue.disjunction es) = placed_by_all es ++ node (cue.disjunction es) ∷ []
  placed_by (cue.struct ds opened) = node (cue.struct ds opened) ∷ []
  placed_by (cue.list es rest) = node (cue.list es rest) ∷ []

  pub placed_by_all : Expressions → List Rule
  placed_by_all cue.no_expressions = []
  placed_by_all (cue.expression e es) = placed_by e ++ placed_by_all es

abbrev pub values_of : List (Declaration Expression) → List Expression
values_of ds = map (λ d. d.value) ds

abbrev pub each_of : cue.Rest → List Expression
each_of cue.closed = []
each_of cue.any = []
each_of (cue.each e) = e ∷ []

-- what waits then: what these ask of documents inside
abbrev mutual
  pub left_by : Expression → List Expression
  left_by (cue.atom a) = []
  left_by (cue.kind k) = []
  left_by (cue.range least greatest) = []
  left_by (cue.reference n) = []
  left_by (cue.conjunction es) = left_by_all es
  left_by (cue.disjunction es) = left_by_all es
  left_by (cue.struct ds opened) = values_of (declarations ds)
  left_by (cue.list es rest) = operands es ++ each_of rest

  pub left_by_all : Expressions → List Expression
  left_by_all cue.no_expressions = []
  left_by_all (cue.expression e es) = left_by e ++ left_by_all es

-- each definition of that name has the number that `numbers` gives it
abbrev pub IsKnown : List (List ℕ) → List ℕ → List Rule → List ℕ → Type 0
IsKnown names numbers placed n = (i : ℕ) → get_or names i [] ≡ n → (i < length numbers) × (slice_get placed (slice_index numbers i) ≡ Some (definition n))

-- each definition that these refer to has its number
abbrev pub AreKnownIn : List (List ℕ) → List ℕ → List Rule → List Expression → Type 0
AreKnownIn names numbers placed es = AllByRecursion (λ e. AllByRecursion (IsKnown names numbers placed) (referred e)) es

-- with an expression numbered k, its rules are behind those before, and what it asks of documents inside waits behind the rest
abbrev pub Places : List ℕ → Numberer Shape Coded → Numberer Shape Coded → (List (List ℕ) → Expression) → ℕ → Type 0
Places numbers old new e k =
    (names : List (List ℕ)) → (waiting names new ≡ waiting names old ++ left_by (e names))
    × ((E : Environment) (placed : List Rule) → AreNumberedBy E names placed old → AllByRecursion (IsKnown names numbers placed) (direct (e names))
    → AreNumberedBy E names (placed ++ placed_by (e names)) new × AreAt (placed ++ placed_by (e names)) (k ∷ []) (e names ∷ []))

-- the same of a list of expressions
abbrev pub PlacesAll : List ℕ → Numberer Shape Coded → Numberer Shape Coded → (List (List ℕ) → Expressions) → List ℕ → Type 0
PlacesAll numbers old new es ks =
    (names : List (List ℕ)) → (waiting names new ≡ waiting names old ++ left_by_all (es names))
    × ((E : Environment) (placed : List Rule) → AreNumberedBy E names placed old → AllByRecursion (IsKnown names numbers placed) (direct_all (es names))
    → AreNumberedBy E names (placed ++ placed_by_all (es names)) new × AreAt (placed ++ placed_by_all (es names)) ks (operands (es names)))

-- ---- definitions

abbrev pub bodies_of : Environment → List ℕ → Expressions
bodies_of E n = expressions_of (unwrap_or (bodies E n) [])

-- what gets a number with a definition
abbrev pub placed_with : Environment → List ℕ → List Rule
placed_with E n = placed_by_all (bodies_of E n) ++ definition n ∷ []

-- what waits then
abbrev pub left_with : Environment → List ℕ → List Expression
left_with E n = left_by_all (bodies_of E n)

-- the rules of expressions that wait, and of all inside them
abbrev pub rules_in : List Expression → List Rule
rules_in es = map node (flat_map subexpressions es)

-- ---- what waits

-- the values of declarations wait, each at the place in its field
pub record FieldsWait (parts : List Part) (old new : Numberer Shape Coded) (fields : List Field) : Type 0 where
  pub rules : new.rules ≡ old.rules
  pub waits : (names : List (List ℕ)) → waiting names new ≡ waiting names old ++ values_of (map (part_of names) parts)
  pub are : (names : List (List ℕ)) → map (map_declaration (expression_at (waiting names new))) (map field_of fields) ≡ map (part_of names) parts
  pub below : PlacesBelow (length new.pending.items) (map field_of fields)

-- elements wait, each at its place
pub record ElementsWait (shapes : List Shape) (old new : Numberer Shape Coded) (places : List ℕ) : Type 0 where
  pub rules : new.rules ≡ old.rules
  pub waits : (names : List (List ℕ)) → waiting names new ≡ waiting names old ++ map (expression_of names) shapes
  pub are : (names : List (List ℕ)) → map (expression_at (waiting names new)) places ≡ map (expression_of names) shapes
  pub below : AllByRecursion (λ p. p < length new.pending.items) places

-- what is behind the elements waits, at the place that the ending has
pub record EndWaits (end : ShapeEnd) (old new : Numberer Shape Coded) (ending : Ending) : Type 0 where
  pub rules : new.rules ≡ old.rules
  pub waits : (names : List (List ℕ)) → waiting names new ≡ waiting names old ++ each_of (end_of names end)
  pub is : (names : List (List ℕ)) → map_rest (expression_at (waiting names new)) (ending_of ending) ≡ rest_of (end_of names end)
  pub below : RestBelow (length new.pending.items) (ending_of ending)

-- with what waited numbered in its order as far as `inner` goes, the rules are behind those placed before; what still
-- waits and all that is in it make up the rest, and refers to definitions that have numbers
pub record PlacesWaiting (E : Environment) (names : List (List ℕ)) (numbers : List ℕ) (placed : List Rule) (old new : Numberer Shape Coded) (inner : List ℕ) : Type 0 where
  pub more : List Rule
  pub numbered : AreNumberedBy E names (placed ++ more) new
  pub inside : AreAt (placed ++ more) inner (take (length inner) (waiting names new))
  pub same : IsPermutation (placed ++ rules_in (waiting names old)) ((placed ++ more) ++ rules_in (drop (length inner) (waiting names new)))
  pub known : AreKnownIn names numbers placed (waiting names new)
