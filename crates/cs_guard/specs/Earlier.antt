-- What the profile's first edition took for guarded: a reference was as strong behind a `|` as elsewhere.
use Rattle.std.specs.Prelude.{ℕ, List, [], ◌∷◌, ◌++◌, flat_map, unwrap_or, Contains}
use Rattle.cs_package.specs.Expression.{Expression, atom, kind, range, reference, conjunction, disjunction, struct, list, Expressions, no_expressions, expression, Declarations, no_declarations, declaration}
use Rattle.cs_package.specs.Environment.{Environment, bodies}
use Rattle.cs_guard.specs.Limits as limits
use Rattle.cs_guard.specs.References.{unless_optional}

-- the names of the references that are reached through `&`, `|`, regular and required fields and fixed list elements alike
abbrev mutual
  pub mixed : Expression → List (List ℕ)
  mixed (atom a) = []
  mixed (kind k) = []
  mixed (range least greatest) = []
  mixed (reference n) = n ∷ []
  mixed (conjunction es) = mixed_all es
  mixed (disjunction es) = mixed_all es
  mixed (struct ds opened) = mixed_fields ds
  mixed (list es rest) = mixed_all es

  pub mixed_all : Expressions → List (List ℕ)
  mixed_all no_expressions = []
  mixed_all (expression e es) = mixed e ++ mixed_all es

  pub mixed_fields : Declarations → List (List ℕ)
  mixed_fields no_declarations = []
  mixed_fields (declaration l m e ds) = unless_optional m (mixed e) ++ mixed_fields ds

-- the names that the definition n refers to in these ways, in any of its bodies
abbrev pub mixed_of : Environment → List ℕ → List (List ℕ)
mixed_of E n = flat_map mixed (unwrap_or (bodies E n) [])

abbrev pub RefersMixedly : Environment → List ℕ → List ℕ → Type 0
RefersMixedly E n m = Contains (mixed_of E n) m

-- no cycle of such references, and no chain of more of them than may be
abbrev pub IsGuardedEarlier : Environment → Type 0
IsGuardedEarlier E = limits.IsGuarded (RefersMixedly E)
