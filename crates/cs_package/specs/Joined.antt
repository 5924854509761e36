-- Operands of resolved expressions (CUE language specification, "Unification" and "Disjunction").
use Rattle.cs_package.specs.Expression.{Expression, atom, kind, range, reference, conjunction, disjunction, struct, list, Expressions, no_expressions, expression, Declarations, no_declarations, declaration, Rest, closed, any, each}

-- two or more
abbrev pub HasTwo : Expressions → Type 0
HasTwo no_expressions = ⊥
HasTwo (expression e no_expressions) = ⊥
HasTwo (expression e (expression f es)) = Unit {0}

-- each `&` and each `|` in it, at any depth, has two operands or more
abbrev mutual
  pub IsJoined : Expression → Type 0
  IsJoined (atom a) = Unit {0}
  IsJoined (kind k) = Unit {0}
  IsJoined (range least greatest) = Unit {0}
  IsJoined (reference n) = Unit {0}
  IsJoined (conjunction es) = HasTwo es × AreJoined es
  IsJoined (disjunction es) = HasTwo es × AreJoined es
  IsJoined (struct ds opened) = AreJoinedFields ds
  IsJoined (list es rest) = AreJoined es × IsJoinedRest rest

  pub AreJoined : Expressions → Type 0
  AreJoined no_expressions = Unit {0}
  AreJoined (expression e es) = IsJoined e × AreJoined es

  pub AreJoinedFields : Declarations → Type 0
  AreJoinedFields no_declarations = Unit {0}
  AreJoinedFields (declaration l m e ds) = IsJoined e × AreJoinedFields ds

  pub IsJoinedRest : Rest → Type 0
  IsJoinedRest closed = Unit {0}
  IsJoinedRest any = Unit {0}
  IsJoinedRest (each e) = IsJoined e
