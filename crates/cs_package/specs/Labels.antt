-- Expressions in which each declaration of a struct literal has a label: none is `[string]: T`, at any depth. Those of
-- the profile's first edition are such.
use Rattle.std.specs.List.{AllByRecursion}
use Rattle.cs_package.specs.Environment.{Environment}
use Rattle.cs_package.specs.Expression.{Expression, atom, kind, range, reference, conjunction, disjunction, struct, list, Expressions, no_expressions, expression, Declarations, no_declarations, declaration, DeclarationMark, regular, optional, required, every, Rest, closed, any, each}

-- the mark of a declaration with a label
abbrev pub HasLabel : DeclarationMark → Type 0
HasLabel regular = Unit {0}
HasLabel optional = Unit {0}
HasLabel required = Unit {0}
HasLabel every = ⊥

-- each declaration in the expression, at any depth, has a label
abbrev mutual
  pub IsLabelled : Expression → Type 0
  IsLabelled (atom a) = Unit {0}
  IsLabelled (kind k) = Unit {0}
  IsLabelled (range least greatest) = Unit {0}
  IsLabelled (reference n) = Unit {0}
  IsLabelled (conjunction es) = AreLabelled es
  IsLabelled (disjunction es) = AreLabelled es
  IsLabelled (struct ds opened) = AreLabelledFields ds
  IsLabelled (list es rest) = AreLabelled es × IsLabelledRest rest

  pub AreLabelled : Expressions → Type 0
  AreLabelled no_expressions = Unit {0}
  AreLabelled (expression e es) = IsLabelled e × AreLabelled es

  pub AreLabelledFields : Declarations → Type 0
  AreLabelledFields no_declarations = Unit {0}
  AreLabelledFields (declaration l m e ds) = HasLabel m × IsLabelled e × AreLabelledFields ds

  pub IsLabelledRest : Rest → Type 0
  IsLabelledRest closed = Unit {0}
  IsLabelledRest any = Unit {0}
  IsLabelledRest (each e) = IsLabelled e

-- so is each body of a definition
abbrev pub IsLabelledEnvironment : Environment → Type 0
IsLabelledEnvironment E = AllByRecursion (λ d. AllByRecursion IsLabelled d.1) E
