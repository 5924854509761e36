-- How high resolved expressions are (own rule: it bounds how deep what is made of them is nested).
use Rattle.std.specs.Prelude.{◌≡◌, ℕ, ◌+◌, ◌≤◌, max, List, [], ◌∷◌, Some}
use Rattle.cs_grammar.specs.Limits.{most_height}
use Rattle.cs_package.specs.Expression.{Expression, atom, kind, range, reference, conjunction, disjunction, struct, list, Expressions, no_expressions, expression, Declarations, no_declarations, declaration, Rest, closed, any, each}
use Rattle.cs_package.specs.Environment.{Environment, bodies}

-- 1 where there are no parts, and otherwise one more than the greatest height of a part
abbrev mutual
  pub height : Expression → ℕ
  height (atom a) = 1
  height (kind k) = 1
  height (range least greatest) = 1
  height (reference n) = 1
  height (conjunction es) = 1 + height_all es
  height (disjunction es) = 1 + height_all es
  height (struct ds opened) = 1 + height_fields ds
  height (list es rest) = 1 + max (height_all es) (height_rest rest)

  pub height_all : Expressions → ℕ
  height_all no_expressions = 0
  height_all (expression e es) = max (height e) (height_all es)

  pub height_fields : Declarations → ℕ
  height_fields no_declarations = 0
  height_fields (declaration l m e ds) = max (height e) (height_fields ds)

  pub height_rest : Rest → ℕ
  height_rest closed = 0
  height_rest any = 0
  height_rest (each e) = height e

-- the greatest, and 0 for none
abbrev pub heights : List Expression → ℕ
heights [] = 0
heights (e ∷ es) = max (height e) (heights es)

-- no body of a definition is higher than the limit
abbrev pub IsLow : Environment → Type 0
IsLow E = (n : List ℕ) (es : List Expression) → bodies E n ≡ Some es → heights es ≤ most_height
