-- The names that a walk over an expression takes: those of the references that are followed in one of four ways.
use Rattle.std.specs.Prelude.{ℕ, List, [], ◌∷◌, ◌++◌, Option, Some, None, flat_map, unwrap_or}
use Rattle.std.specs.Option.{option_map_or}
use Rattle.cs_package.specs.Expression.{Expression, atom, kind, range, reference, conjunction, disjunction, struct, list, Expressions, no_expressions, expression, Declarations, no_declarations, declaration, DeclarationMark, regular, optional, required, every, Rest, closed, any, each}
use Rattle.cs_package.specs.Environment.{Environment, bodies}
use Rattle.cs_guard.specs.declared.references.Followed.{Followed}
use Rattle.cs_guard.specs.declared.references.Followed.TheVariants.{Strong, Direct, Inside, Every}

-- how a walk goes on in the operands of `|`: from there on it enters no field or element, and where it has entered one it ends
abbrev pub behind_disjunction : Followed → Option Followed
behind_disjunction Strong = Some Direct
behind_disjunction Direct = Some Direct
behind_disjunction Inside = None
behind_disjunction Every = Some Every

-- how it goes on in fields and elements: where it has passed a `|` it ends
abbrev pub inside_part : Followed → Option Followed
inside_part Strong = Some Inside
inside_part Direct = None
inside_part Inside = Some Inside
inside_part Every = Some Every

-- the names under a field, where a walk goes on in it this way
abbrev pub of_field : DeclarationMark → Followed → List (List ℕ) → List (List ℕ)
of_field regular f ns = ns
of_field required f ns = ns
of_field optional Strong ns = []
of_field optional Direct ns = []
of_field optional Inside ns = []
of_field optional Every ns = ns
of_field every Strong ns = []
of_field every Direct ns = []
of_field every Inside ns = []
of_field every Every ns = ns

abbrev mutual
  pub taken : Followed → Expression → List (List ℕ)
  taken f (atom a) = []
  taken f (kind k) = []
  taken f (range least greatest) = []
  taken f (reference n) = n ∷ []
  taken f (conjunction es) = taken_all f es
  taken f (disjunction es) = option_map_or (λ g. taken_all g es) (behind_disjunction f) []
  taken f (struct ds opened) = option_map_or (λ g. taken_fields g ds) (inside_part f) []
  taken f (list es rest) = option_map_or (λ g. taken_all g es) (inside_part f) [] ++ taken_rest f rest

  pub taken_all : Followed → Expressions → List (List ℕ)
  taken_all f no_expressions = []
  taken_all f (expression e es) = taken f e ++ taken_all f es

  pub taken_fields : Followed → Declarations → List (List ℕ)
  taken_fields f no_declarations = []
  taken_fields f (declaration l m e ds) = of_field m f (taken f e) ++ taken_fields f ds

  pub taken_rest : Followed → Rest → List (List ℕ)
  taken_rest Strong rest = []
  taken_rest Direct rest = []
  taken_rest Inside rest = []
  taken_rest Every closed = []
  taken_rest Every any = []
  taken_rest Every (each e) = taken Every e

-- those of the definition n, in any of its bodies
abbrev pub taken_of : Followed → Environment → List ℕ → List (List ℕ)
taken_of f E n = flat_map (taken f) (unwrap_or (bodies E n) [])
