-- What is reachable from a definition by any reference (CUE language specification, "Expressions"; reaching is an own rule).
use Rattle.std.specs.Prelude.{◌≡◌, ◌↔◌, ℕ, List, [], ◌∷◌, ◌++◌, Some, flat_map, unwrap_or, slice_get, Contains}
use Rattle.std.specs.List.{IsDistinct}
use Rattle.std.specs.Str.{bytes_eq}
use Rattle.cs_package.specs.Expression.{Expression, atom, kind, range, reference, conjunction, disjunction, struct, list, Expressions, no_expressions, expression, Declarations, no_declarations, declaration, Rest, closed, any, each}
use Rattle.cs_package.specs.Environment.{Environment, bodies}
use Rattle.cs_graph.specs.Chains.{Chain}

-- the names of the references in an expression, at any depth
abbrev mutual
  pub referred : Expression → List (List ℕ)
  referred (atom a) = []
  referred (kind k) = []
  referred (range least greatest) = []
  referred (reference n) = n ∷ []
  referred (conjunction es) = referred_all es
  referred (disjunction es) = referred_all es
  referred (struct ds opened) = referred_fields ds
  referred (list es rest) = referred_all es ++ referred_rest rest

  pub referred_all : Expressions → List (List ℕ)
  referred_all no_expressions = []
  referred_all (expression e es) = referred e ++ referred_all es

  pub referred_fields : Declarations → List (List ℕ)
  referred_fields no_declarations = []
  referred_fields (declaration l m e ds) = referred e ++ referred_fields ds

  pub referred_rest : Rest → List (List ℕ)
  referred_rest closed = []
  referred_rest any = []
  referred_rest (each e) = referred e

-- the names that the definition n refers to, in any of its bodies
abbrev pub referred_of : Environment → List ℕ → List (List ℕ)
referred_of E n = flat_map referred (unwrap_or (bodies E n) [])

abbrev pub RefersTo : Environment → List ℕ → List ℕ → Type 0
RefersTo E n m = Contains (referred_of E n) m

-- the last of n and these
abbrev pub last_of : List ℕ → List (List ℕ) → List ℕ
last_of n [] = n
last_of n (m ∷ ms) = last_of m ms

-- a chain of references, perhaps of none, leads from n to m
pub record Reaches (E : Environment) (n m : List ℕ) : Type 0 where
  pub steps : List (List ℕ)
  pub chain : Chain (RefersTo E) n steps
  pub last : last_of n steps ≡ m

-- exactly those that n reaches, each once, n first
pub record AreReachable (E : Environment) (n : List ℕ) (ns : List (List ℕ)) : Type 0 where
  pub each : (m : List ℕ) → Contains ns m ↔ Reaches E n m
  pub distinct : IsDistinct bytes_eq ns
  pub first : slice_get ns 0 ≡ Some n
