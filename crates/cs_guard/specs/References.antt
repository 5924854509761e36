-- What a definition refers to (CUE language specification, "Structural cycles"; which references are strong is an own rule).
use Rattle.std.specs.Prelude.{ℕ, List, [], ◌∷◌, ◌++◌, flat_map, unwrap_or, Contains}
use Rattle.cs_package.specs.Expression.{Expression, atom, kind, range, reference, conjunction, disjunction, struct, list, Expressions, no_expressions, expression, Declarations, no_declarations, declaration, DeclarationMark, regular, optional, required, every}
use Rattle.cs_package.specs.Environment.{Environment, bodies}

-- the names of the references that are reached through `&` and `|` alone
abbrev mutual
  pub direct : Expression → List (List ℕ)
  direct (atom a) = []
  direct (kind k) = []
  direct (range least greatest) = []
  direct (reference n) = n ∷ []
  direct (conjunction es) = direct_all es
  direct (disjunction es) = direct_all es
  direct (struct ds opened) = []
  direct (list es rest) = []

  pub direct_all : Expressions → List (List ℕ)
  direct_all no_expressions = []
  direct_all (expression e es) = direct e ++ direct_all es

-- an optional field asks nothing of its own, and neither does `[string]`
abbrev pub unless_optional : DeclarationMark → List (List ℕ) → List (List ℕ)
unless_optional regular ns = ns
unless_optional optional ns = []
unless_optional required ns = ns
unless_optional every ns = []

-- the names of those that are reached through `&`, regular and required fields and fixed list elements, without any `|`
abbrev mutual
  pub inside : Expression → List (List ℕ)
  inside (atom a) = []
  inside (kind k) = []
  inside (range least greatest) = []
  inside (reference n) = n ∷ []
  inside (conjunction es) = inside_all es
  inside (disjunction es) = []
  inside (struct ds opened) = inside_fields ds
  inside (list es rest) = inside_all es

  pub inside_all : Expressions → List (List ℕ)
  inside_all no_expressions = []
  inside_all (expression e es) = inside e ++ inside_all es

  pub inside_fields : Declarations → List (List ℕ)
  inside_fields no_declarations = []
  inside_fields (declaration l m e ds) = unless_optional m (inside e) ++ inside_fields ds

-- the names of those that are reached in one of the two ways: an operand of `|` may be left out where something stands
-- around it, and so a list may end there
abbrev mutual
  pub strong : Expression → List (List ℕ)
  strong (atom a) = []
  strong (kind k) = []
  strong (range least greatest) = []
  strong (reference n) = n ∷ []
  strong (conjunction es) = strong_all es
  strong (disjunction es) = direct_all es
  strong (struct ds opened) = inside_fields ds
  strong (list es rest) = inside_all es

  pub strong_all : Expressions → List (List ℕ)
  strong_all no_expressions = []
  strong_all (expression e es) = strong e ++ strong_all es

-- the names that the definition n refers to strongly, in any of its bodies
abbrev pub strong_of : Environment → List ℕ → List (List ℕ)
strong_of E n = flat_map strong (unwrap_or (bodies E n) [])

abbrev pub RefersStrongly : Environment → List ℕ → List ℕ → Type 0
RefersStrongly E n m = Contains (strong_of E n) m
