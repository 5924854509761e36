-- The rules of small packages and their numbers, worked by computation.
use Rattle.std.proofs.Common.{◌≡◌, ℕ, zero, suc, pos, true, false, List, [], ◌∷◌, length, Some, codes, refl, arith, subst}
use Rattle.std.specs.Prelude.{slice_get}
use Rattle.std.proofs.lemmas.Option.{same_Some}
use Rattle.cs_package.specs.Expression as cue
use Rattle.cs_package.specs.Expression.{Expression, optional, regular}
use Rattle.cs_package.specs.Environment.{Environment}
use Rattle.cs_instance.specs.Constraint.{Constraint, each, simple, all_of, object_of, list_of, is_of_kind}
use Rattle.cs_instance.specs.Instance.{Rule, definition, node, constraint_of}
use Rattle.cs_instance.specs.Numbering.{map_constraint, PartsBelow, rule_at, IsNumbering}
use Rattle.cs_instance.specs.Rules.{subexpressions, rules_of}

abbrev int : Expression
int = cue.kind cue.int

abbrev string : Expression
string = cue.kind cue.string

abbrev one : Expression → cue.Expressions
one e = cue.expression e cue.no_expressions

abbrev two : Expression → Expression → cue.Expressions
two d e = cue.expression d (one e)

-- ---- each form

of_atom : subexpressions (cue.atom cue.top) ≡ cue.atom cue.top ∷ []
of_atom = refl

of_kind_alone : subexpressions int ≡ int ∷ []
of_kind_alone = refl

of_range : subexpressions (cue.range (pos 0) (Some (pos 9))) ≡ cue.range (pos 0) (Some (pos 9)) ∷ []
of_range = refl

of_reference : subexpressions (cue.reference (codes "T")) ≡ cue.reference (codes "T") ∷ []
of_reference = refl

of_conjunction : subexpressions (cue.conjunction (two int string)) ≡ cue.conjunction (two int string) ∷ int ∷ string ∷ []
of_conjunction = refl

of_disjunction : subexpressions (cue.disjunction (two int (cue.conjunction (two string int)))) ≡ cue.disjunction (two int (cue.conjunction (two string int))) ∷ int ∷ cue.conjunction (two string int) ∷ string ∷ int ∷ []
of_disjunction = refl

abbrev fields : cue.Declarations
fields = cue.declaration (codes "a") cue.optional int (cue.declaration (codes "b") cue.required string cue.no_declarations)

of_struct : subexpressions (cue.struct fields true) ≡ cue.struct fields true ∷ int ∷ string ∷ []
of_struct = refl

of_closed_list : subexpressions (cue.list (two int string) cue.closed) ≡ cue.list (two int string) cue.closed ∷ int ∷ string ∷ []
of_closed_list = refl

-- a bare `...` is no rule
of_open_list : subexpressions (cue.list (one int) cue.any) ≡ cue.list (one int) cue.any ∷ int ∷ []
of_open_list = refl

of_list_of : subexpressions (cue.list cue.no_expressions (cue.each string)) ≡ cue.list cue.no_expressions (cue.each string) ∷ string ∷ []
of_list_of = refl

-- ---- #T: {v: int, kids?: [...#T]}

abbrev kids : Expression
kids = cue.list cue.no_expressions (cue.each (cue.reference (codes "T")))

abbrev tree : Expression
tree = cue.struct (cue.declaration (codes "v") cue.regular int (cue.declaration (codes "kids") cue.optional kids cue.no_declarations)) false

abbrev trees : Environment
trees = (codes "T", tree ∷ []) ∷ []

five_rules : rules_of trees (codes "T" ∷ []) ≡ definition (codes "T") ∷ node tree ∷ node int ∷ node kids ∷ node (cue.reference (codes "T")) ∷ []
five_rules = refl

-- the definition after its body, and what its body asks of documents inside behind them
abbrev tree_rules : List Rule
tree_rules = node tree ∷ definition (codes "T") ∷ node int ∷ node kids ∷ node (cue.reference (codes "T")) ∷ []

abbrev tree_asked : List (Constraint ℕ ℕ)
tree_asked =
    object_of (record { label = codes "v"; mark = regular; value = 2 } ∷ record { label = codes "kids"; mark = optional; value = 3 } ∷ []) false
    ∷ all_of (0 ∷ []) ∷ simple (is_of_kind cue.int) ∷ list_of [] (each 4) ∷ all_of (1 ∷ []) ∷ []

abbrev Asks : List Rule → ℕ → Constraint ℕ ℕ → Type 0
Asks rules r c = map_constraint (λ p. p) node (constraint_of trees (rule_at rules r)) ≡ map_constraint (rule_at rules) (rule_at rules) c

tree_numbered : IsNumbering trees tree_rules tree_asked
tree_numbered = record { count = refl; asks = asks; below = below }
  where
    asks : (r : ℕ) (c : Constraint ℕ ℕ) → slice_get tree_asked r ≡ Some c → Asks tree_rules r c
    asks zero c e = subst (Asks tree_rules 0) (same_Some _ c e) refl
    asks (suc zero) c e = subst (Asks tree_rules 1) (same_Some _ c e) refl
    asks (suc (suc zero)) c e = subst (Asks tree_rules 2) (same_Some _ c e) refl
    asks (suc (suc (suc zero))) c e = subst (Asks tree_rules 3) (same_Some _ c e) refl
    asks (suc (suc (suc (suc zero)))) c e = subst (Asks tree_rules 4) (same_Some _ c e) refl
    asks (suc (suc (suc (suc (suc r))))) c e = cc

    below : (r : ℕ) (c : Constraint ℕ ℕ) → slice_get tree_asked r ≡ Some c → PartsBelow r 5 c
    below zero c e = subst (PartsBelow 0 5) (same_Some _ c e) (omega arith, (omega arith, tt))
    below (suc zero) c e = subst (PartsBelow 1 5) (same_Some _ c e) (omega arith, tt)
    below (suc (suc zero)) c e = subst (PartsBelow 2 5) (same_Some _ c e) tt
    below (suc (suc (suc zero))) c e = subst (PartsBelow 3 5) (same_Some _ c e) (tt, omega arith)
    below (suc (suc (suc (suc zero)))) c e = subst (PartsBelow 4 5) (same_Some _ c e) (omega arith, tt)
    below (suc (suc (suc (suc (suc r))))) c e = cc

-- ---- #A0: #A1 & #A1, #A1: #A2 & #A2, #A2: int: each definition counts once

abbrev twice : List ℕ → Expression
twice n = cue.conjunction (two (cue.reference n) (cue.reference n))

abbrev doubling : Environment
doubling = (codes "A0", twice (codes "A1") ∷ []) ∷ (codes "A1", twice (codes "A2") ∷ []) ∷ (codes "A2", int ∷ []) ∷ []

ten_rules : length (rules_of doubling (codes "A0" ∷ codes "A1" ∷ codes "A2" ∷ [])) ≡ 10
ten_rules = refl
