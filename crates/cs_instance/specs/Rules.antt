-- The rules by which documents are judged: the definitions that a root reaches, and all expressions in their bodies.
use Rattle.std.specs.Prelude.{ℕ, ◌<◌, ◌*◌, List, [], ◌∷◌, ◌++◌, map, flat_map, unwrap_or, length}
use Rattle.std.specs.List.Sorted.{IsPermutation}
use Rattle.cs_document.specs.Document.{Document}
use Rattle.cs_flat.specs.Nodes.{nodes}
use Rattle.cs_table.specs.Limit.{most_pairs}
use Rattle.cs_package.specs.Expression as cue
use Rattle.cs_package.specs.Expression.{Expression, Expressions, Declarations, Rest}
use Rattle.cs_package.specs.Environment.{Environment, bodies}
use Rattle.cs_guard.specs.Reachable.{AreReachable}
use Rattle.cs_instance.specs.Instance.{Rule, definition, node}

-- an expression and those inside it, at any depth; `...` alone is none
abbrev mutual
  pub subexpressions : Expression → List Expression
  subexpressions (cue.atom a) = cue.atom a ∷ []
  subexpressions (cue.kind k) = cue.kind k ∷ []
  subexpressions (cue.range least greatest) = cue.range least greatest ∷ []
  subexpressions (cue.reference n) = cue.reference n ∷ []
  subexpressions (cue.conjunction es) = cue.conjunction es ∷ subexpressions_all es
  subexpressions (cue.disjunction es) = cue.disjunction es ∷ subexpressions_all es
  subexpressions (cue.struct ds opened) = cue.struct ds opened ∷ subexpressions_fields ds
  subexpressions (cue.list es rest) = cue.list es rest ∷ (subexpressions_all es ++ subexpressions_rest rest)

  pub subexpressions_all : Expressions → List Expression
  subexpressions_all cue.no_expressions = []
  subexpressions_all (cue.expression e es) = subexpressions e ++ subexpressions_all es

  pub subexpressions_fields : Declarations → List Expression
  subexpressions_fields cue.no_declarations = []
  subexpressions_fields (cue.declaration l m e ds) = subexpressions e ++ subexpressions_fields ds

  pub subexpressions_rest : Rest → List Expression
  subexpressions_rest cue.closed = []
  subexpressions_rest cue.any = []
  subexpressions_rest (cue.each e) = subexpressions e

-- the rules of one definition: itself, and the expressions in its bodies
abbrev pub rules_of_one : Environment → List ℕ → List Rule
rules_of_one E n = definition n ∷ map node (flat_map subexpressions (unwrap_or (bodies E n) []))

abbrev pub rules_of : Environment → List (List ℕ) → List Rule
rules_of E ns = flat_map (rules_of_one E) ns

-- the rules of all definitions that n reaches, in any order
pub record AreRules (E : Environment) (n : List ℕ) (rules : List Rule) : Type 0 where
  pub names : List (List ℕ)
  pub reachable : AreReachable E n names
  pub same : IsPermutation (rules_of E names) rules

-- the values of the document and these rules make more pairs than a table may have
pub record HasManyPairs (E : Environment) (n : List ℕ) (d : Document) : Type 0 where
  pub names : List (List ℕ)
  pub reachable : AreReachable E n names
  pub many : most_pairs < length (nodes d) * length (rules_of E names)
