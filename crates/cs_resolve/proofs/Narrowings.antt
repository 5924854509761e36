-- Samples of closed bases and plain refinements, worked by the definitions.
use Rattle.std.proofs.Common.{◌≡◌, ℕ, Bool, true, false, List, [], ◌∷◌, Option, Some, None, pos, codes, refl}
use Rattle.cs_grammar.specs.Tree.{Label, written_label, Tree, atom, named, reference, conjunction, paren, struct, Trees, none, more, Fields, no_field, field, DefinitionTree, definition}
use Rattle.cs_grammar.specs.Atom.{integer}
use Rattle.cs_grammar.specs.declared.ast.FieldMark.TheVariants.{Regular, Every}
use Rattle.cs_resolve.specs.ClosedBases.{bases, is_refinement}

abbrev plain : List ℕ → Label
plain t = written_label t false

abbrev quoted : List ℕ → Label
quoted t = written_label t true

-- `{k: 1}` under a label
abbrev one : Label → Tree
one l = struct 0 (field l Regular (atom (integer (pos 1))) no_field) false

abbrev both : Tree → Tree → Trees
both a b = more a (more b none)

abbrev two : Tree → Tree → Tree
two a b = conjunction (both a b)

abbrev defined : List ℕ → Tree → DefinitionTree
defined n e = definition n 0 e

abbrev refers : List ℕ → Tree
refers n = reference n 0

-- the fields `k: int, m: int`
abbrev known : Fields
known = field (plain (codes "k")) Regular (named (codes "int") 0) (field (plain (codes "m")) Regular (named (codes "int") 0) no_field)

-- `#L: {k: int, m: int}`
abbrev literal : DefinitionTree
literal = defined (codes "L") (struct 0 known false)

abbrev labels : Option (List (List ℕ))
labels = Some (codes "k" ∷ codes "m" ∷ [])

-- ---- closed bases

a_literal : bases (literal ∷ []) (codes "L") ≡ labels
a_literal = refl

-- `#L: ({k: int, m: int})`
in_parentheses : bases (defined (codes "L") (paren (struct 0 known false)) ∷ []) (codes "L") ≡ labels
in_parentheses = refl

-- `#L: {k: int, m: int, ...}`
opened : bases (defined (codes "L") (struct 0 known true) ∷ []) (codes "L") ≡ None
opened = refl

-- `#L: {[string]: int}`
every_key : bases (defined (codes "L") (struct 0 (field (quoted []) (Every 1) (named (codes "int") 1) no_field) false) ∷ []) (codes "L") ≡ None
every_key = refl

-- `#L: {k: int, m: int}` twice
two_bodies : bases (literal ∷ literal ∷ []) (codes "L") ≡ None
two_bodies = refl

-- `#L: #M`
a_reference : bases (defined (codes "L") (refers (codes "M")) ∷ []) (codes "L") ≡ None
a_reference = refl

-- `#R: #L & {k: 1}`, before `#L` and behind it
of_a_literal : bases (defined (codes "R") (two (refers (codes "L")) (one (plain (codes "k")))) ∷ literal ∷ []) (codes "R") ≡ labels
of_a_literal = refl

behind_it : bases (literal ∷ defined (codes "R") (two (refers (codes "L")) (one (plain (codes "k")))) ∷ []) (codes "R") ≡ labels
behind_it = refl

-- `#S: {"m": 1} & #R` with `#R: #L & {k: 1}`
of_a_refinement : bases (defined (codes "S") (two (one (quoted (codes "m"))) (refers (codes "R"))) ∷ defined (codes "R") (two (refers (codes "L")) (one (plain (codes "k")))) ∷ literal ∷ []) (codes "S") ≡ labels
of_a_refinement = refl

-- `#R: ((#L) & ({k: 1}))`
more_parentheses : bases (literal ∷ defined (codes "R") (paren (two (paren (refers (codes "L"))) (paren (one (plain (codes "k")))))) ∷ []) (codes "R") ≡ labels
more_parentheses = refl

-- `#R: #L & {z: 1}`, which isn't a refinement, and `#S: #R & {k: 1}`
no_such_label : bases (literal ∷ defined (codes "R") (two (refers (codes "L")) (one (plain (codes "z")))) ∷ []) (codes "R") ≡ None
no_such_label = refl

of_none : bases (literal ∷ defined (codes "R") (two (refers (codes "L")) (one (plain (codes "z")))) ∷ defined (codes "S") (two (refers (codes "R")) (one (plain (codes "k")))) ∷ []) (codes "S") ≡ None
of_none = refl

-- `#C: #C & {k: 1}`
itself : bases (defined (codes "C") (two (refers (codes "C")) (one (plain (codes "k")))) ∷ []) (codes "C") ≡ None
itself = refl

-- `#C: #D & {k: 1}` and `#D: #C & {k: 1}`
in_a_circle : bases (defined (codes "C") (two (refers (codes "D")) (one (plain (codes "k")))) ∷ defined (codes "D") (two (refers (codes "C")) (one (plain (codes "k")))) ∷ []) (codes "C") ≡ None
in_a_circle = refl

-- ---- plain refinements, where `#L` is the only base

abbrev refines_literal : Trees → Bool
refines_literal es = is_refinement (bases (literal ∷ [])) es

reference_first : refines_literal (both (refers (codes "L")) (one (plain (codes "k")))) ≡ true
reference_first = refl

reference_last : refines_literal (both (one (plain (codes "k"))) (refers (codes "L"))) ≡ true
reference_last = refl

quoted_label : refines_literal (both (refers (codes "L")) (one (quoted (codes "k")))) ≡ true
quoted_label = refl

-- `#L & {}`
no_label : refines_literal (both (refers (codes "L")) (struct 0 no_field false)) ≡ true
no_label = refl

other_label : refines_literal (both (refers (codes "L")) (one (plain (codes "z")))) ≡ false
other_label = refl

-- `#M & {k: 1}`
no_base : refines_literal (both (refers (codes "M")) (one (plain (codes "k")))) ≡ false
no_base = refl

-- `#L & {k: {k: 1}}` and `#L & {k: #L}`
literal_value : refines_literal (both (refers (codes "L")) (struct 0 (field (plain (codes "k")) Regular (one (plain (codes "k"))) no_field) false)) ≡ false
literal_value = refl

reference_value : refines_literal (both (refers (codes "L")) (struct 0 (field (plain (codes "k")) Regular (refers (codes "L")) no_field) false)) ≡ false
reference_value = refl

-- `#L & {k: 1, ...}` and `#L & {[string]: int}`
opened_operand : refines_literal (both (refers (codes "L")) (struct 0 (field (plain (codes "k")) Regular (atom (integer (pos 1))) no_field) true)) ≡ false
opened_operand = refl

every_operand : refines_literal (both (refers (codes "L")) (struct 0 (field (quoted []) (Every 1) (named (codes "int") 1) no_field) false)) ≡ false
every_operand = refl

-- `#L & {k: 1} & {m: 1}`, and the same with a parenthesis
three_operands : refines_literal (more (refers (codes "L")) (both (one (plain (codes "k"))) (one (plain (codes "m"))))) ≡ false
three_operands = refl

nested_operands : refines_literal (both (paren (two (refers (codes "L")) (one (plain (codes "k"))))) (one (plain (codes "m")))) ≡ false
nested_operands = refl

-- `#L & #L` and `{k: 1} & {k: 1}`
two_references : refines_literal (both (refers (codes "L")) (refers (codes "L"))) ≡ false
two_references = refl

two_literals : refines_literal (both (one (plain (codes "k"))) (one (plain (codes "k")))) ≡ false
two_literals = refl
