-- When a document is an instance of a definition (CUE language specification, "Values" and "Definitions and hidden
-- fields": the order of the lattice, read for concrete documents).
use Rattle.std.specs.Prelude.{◌≡◌, ℕ, Bool, false, List, [], ◌∷◌, Option, Some, None, map}
use Rattle.cs_document.specs.Document.{Document}
use Rattle.cs_document.specs.Opened.{opened}
use Rattle.cs_package.specs.Expression as cue
use Rattle.cs_package.specs.Expression.{Expression, operands, declarations}
use Rattle.cs_package.specs.Environment.{Environment, bodies}
use Rattle.cs_instance.specs.Constraint.{Rest, nothing, anything, each, Constraint, simple, all_of, any_of, object_of, list_of, is_of_kind, is_integer, is_within, admits, is_satisfied}

-- what a document may be an instance of: a definition, by its name without `#`, or an expression
pub data Rule : Type 0 where
  definition : List ℕ → Rule
  node : Expression → Rule

abbrev pub rest_of : cue.Rest → Rest Expression
rest_of cue.closed = nothing
rest_of cue.any = anything
rest_of (cue.each e) = each e

-- a definition asks all its bodies; a name that isn't declared has no instance
abbrev pub all_bodies : Option (List Expression) → Constraint Rule Expression
all_bodies None = simple (λ x. false)
all_bodies (Some bs) = all_of (map node bs)

abbrev pub constraint_of : Environment → Rule → Constraint Rule Expression
constraint_of E (definition n) = all_bodies (bodies E n)
constraint_of E (node (cue.atom a)) = simple (admits a)
constraint_of E (node (cue.kind k)) = simple (is_of_kind k)
constraint_of E (node (cue.range least greatest)) = simple (is_integer (is_within least greatest))
constraint_of E (node (cue.reference n)) = all_of (definition n ∷ [])
constraint_of E (node (cue.conjunction es)) = all_of (map node (operands es))
constraint_of E (node (cue.disjunction es)) = any_of (map node (operands es))
constraint_of E (node (cue.struct ds opened)) = object_of (declarations ds) opened
constraint_of E (node (cue.list es rest)) = list_of (operands es) (rest_of rest)

-- I is the instance relation of the environment: a document is an instance of a rule exactly where it meets what
-- the rule asks, by I itself
abbrev pub IsInstance : Environment → (Rule → Document → Bool) → Type 0
IsInstance E I = (r : Rule) (x : Document) → I r x ≡ is_satisfied (λ part. I part x) (λ y e. I (node e) y) (constraint_of E r) (opened x)

-- there is an instance relation, and only one
pub record OneMeaning (E : Environment) : Type 0 where
  pub some : (I : Rule → Document → Bool) × IsInstance E I
  pub only : (I J : Rule → Document → Bool) → IsInstance E I → IsInstance E J → (r : Rule) (x : Document) → I r x ≡ J r x
