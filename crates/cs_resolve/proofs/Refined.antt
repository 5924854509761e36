-- Samples of plain refinement in the opening rule and in what is resolved. A wrong expectation stops the check here.
use Rattle.std.proofs.Common.{◌≡◌, ℕ, Bool, true, false, List, [], ◌∷◌, None, pos, codes, refl}
use Rattle.std.specs.List.{flat_map}
use Rattle.cs_grammar.specs.Tree.{Label, written_label, Tree, atom, named, reference, conjunction, paren, struct, list, none, more, Fields, no_field, field, each, DefinitionTree, definition, FileTree, file, definitions}
use Rattle.cs_grammar.specs.Atom.{integer, text, not_null}
use Rattle.cs_grammar.specs.declared.ast.FieldMark.TheVariants.{Regular}
use Rattle.cs_package.specs.Expression as cue
use Rattle.cs_package.specs.Expression.{Expression}
use Rattle.cs_package.specs.Environment.{Environment}
use Rattle.cs_package.specs.View.{expressions_of}
use Rattle.cs_resolve.specs.Opening.{conjunctions}
use Rattle.cs_resolve.specs.Unopened.{unopened, unopened_files}
use Rattle.cs_resolve.specs.ClosedBases.{bases, is_refinement}
use Rattle.cs_resolve.specs.Earlier.{no_refinements}
use Rattle.cs_resolve.specs.Refinement.{Refinements}
use Rattle.cs_resolve.specs.Resolved.{resolved, environment_of_files}

-- ---- short forms

abbrev k : Label
k = written_label (codes "k") false

abbrev z : Label
z = written_label (codes "z") false

-- `k: "x"`, and `k: 1`
abbrev is_x : Fields
is_x = field k Regular (atom (text (codes "x"))) no_field

abbrev is_1 : Fields
is_1 = field k Regular (atom (integer (pos 1))) no_field

-- literals at an offset: `{k: "x"}`, `{k: "x", ...}` and `{}`
abbrev x_at : ℕ → Tree
x_at o = struct o is_x false

abbrev opened_at : ℕ → Tree
opened_at o = struct o is_x true

abbrev empty_at : ℕ → Tree
empty_at o = struct o no_field false

abbrev to : List ℕ → Tree
to n = reference n 5

abbrev b : Tree
b = to (codes "B")

abbrev and : Tree → Tree → Tree
and e f = conjunction (more e (more f none))

abbrev and_three : Tree → Tree → Tree → Tree
and_three e f g = conjunction (more e (more f (more g none)))

-- `#B: {k: string}`
abbrev base : DefinitionTree
base = definition (codes "B") 0 (struct 4 (field k Regular (named (codes "string") 8) no_field) false)

abbrev given : Refinements
given = is_refinement (bases (base ∷ []))

-- by the plain refinements of files: their literals at fault, and what they declare
abbrev refined : List FileTree → Refinements
refined fs = is_refinement (bases (flat_map definitions fs))

abbrev pub unopened_of : List FileTree → List (ℕ × ℕ)
unopened_of fs = unopened_files (refined fs) fs

abbrev environment_of : List FileTree → Environment
environment_of fs = environment_of_files (refined fs) fs

-- a package of #B and of `#C: e`
abbrev with_b : Tree → List FileTree
with_b e = file None (base ∷ definition (codes "C") 20 e ∷ []) [] ∷ []

-- ---- what is exempt

-- `#B & {k: "x"}`, in both orders, with parentheses, and `#B & {}`
reference_first : unopened given false (and b (x_at 9)) ≡ []
reference_first = refl

literal_first : unopened given false (and (x_at 9) b) ≡ []
literal_first = refl

in_parentheses : unopened given false (and (paren b) (paren (x_at 9))) ≡ []
in_parentheses = refl

by_nothing : unopened given false (and b (empty_at 9)) ≡ []
by_nothing = refl

-- `{k: #B & {k: "x"}}` and `[...#B & {}]`
in_a_literal : unopened given false (struct 1 (field k Regular (and b (x_at 9)) no_field) false) ≡ []
in_a_literal = refl

in_a_list : unopened given false (list none (each (and b (empty_at 9)))) ≡ []
in_a_list = refl

-- they are no conjunctions, but the values of their labels are; and where the literal ends with `...` they are one
no_conjunction : conjunctions given (and b (empty_at 9)) ≡ []
no_conjunction = refl

values_alone : conjunctions given (and b (x_at 9)) ≡ (atom (text (codes "x")) ∷ []) ∷ []
values_alone = refl

a_conjunction : conjunctions given (and b (struct 9 no_field true)) ≡ (b ∷ struct 9 no_field true ∷ []) ∷ []
a_conjunction = refl

-- of files, where #C is declared in another one than #B
in_files : unopened_of (file None (definition (codes "C") 0 (and b (x_at 9)) ∷ []) [] ∷ file None (base ∷ []) [] ∷ []) ≡ []
in_files = refl

-- ---- what isn't

-- `#B & {z: 1}`, and `#B & {k: {}}`
new_label : unopened given false (and b (struct 9 (field z Regular (atom (integer (pos 1))) no_field) false)) ≡ 9 ∷ []
new_label = refl

value_isnt_plain : unopened given false (and b (struct 9 (field k Regular (empty_at 13) no_field) false)) ≡ 9 ∷ 13 ∷ []
value_isnt_plain = refl

-- `#B & {k: "x"} & {k: "x"}`: both literals
three_operands : unopened given false (and_three b (x_at 9) (x_at 19)) ≡ 9 ∷ 19 ∷ []
three_operands = refl

-- `(#B & {k: "x"}) & #B`, and `(#B & {k: "x"}) & !=null`: a conjunction around it asks, where two operands aren't plain
around_asks : unopened given false (and (paren (and b (x_at 9))) b) ≡ 9 ∷ []
around_asks = refl

around_is_plain : unopened given false (and (paren (and b (x_at 9))) (atom not_null)) ≡ []
around_is_plain = refl

-- `#C: #C & {k: "x"}`
of_itself : unopened_of (with_b (and (to (codes "C")) (x_at 29))) ≡ (0, 29) ∷ []
of_itself = refl

-- `#C: #C & {}`, and `#C: #D & {}` with `#D: #C & {}`
of_itself_by_nothing : unopened_of (with_b (and (to (codes "C")) (empty_at 29))) ≡ (0, 29) ∷ []
of_itself_by_nothing = refl

in_a_circle : unopened_of (file None (definition (codes "C") 0 (and (to (codes "D")) (empty_at 9)) ∷ definition (codes "D") 20 (and (to (codes "C")) (empty_at 29)) ∷ []) [] ∷ []) ≡ (0, 9) ∷ (0, 29) ∷ []
in_a_circle = refl

-- `#D: #C & {k: "x"}` with `#C: #B & {}`: a plain refinement is a base, wherever it stands
of_a_refinement : unopened_of (file None (definition (codes "D") 0 (and (x_at 9) (to (codes "C"))) ∷ definition (codes "C") 20 (and b (empty_at 29)) ∷ base ∷ []) [] ∷ []) ≡ []
of_a_refinement = refl

-- #B has two bodies: its own literal is at fault, and that of #C
base_of_two_bodies : unopened_of (file None (base ∷ base ∷ definition (codes "C") 20 (and b (x_at 29)) ∷ []) [] ∷ []) ≡ (0, 4) ∷ (0, 4) ∷ (0, 29) ∷ []
base_of_two_bodies = refl

-- #C has two bodies, of which each asks
two_refinements : unopened_of (file None (base ∷ definition (codes "C") 20 (and b (x_at 29)) ∷ definition (codes "C") 40 b ∷ []) [] ∷ []) ≡ (0, 29) ∷ []
two_refinements = refl

-- #B ends with `...`, so it is no base
open_base : unopened_of (file None (definition (codes "B") 0 (opened_at 4) ∷ definition (codes "C") 20 (and b (x_at 29)) ∷ []) [] ∷ []) ≡ (0, 29) ∷ []
open_base = refl

-- ---- what is resolved

abbrev x_read : Bool → Expression
x_read opened = cue.struct (cue.declaration (codes "k") cue.regular (cue.atom (cue.text (codes "x"))) cue.no_declarations) opened

-- the literal of a plain refinement is read as if it ended with `...`, and the reference stays
literal_read_opened : resolved given (and b (x_at 9)) ≡ cue.conjunction (expressions_of (cue.reference (codes "B") ∷ x_read true ∷ []))
literal_read_opened = refl

read_opened_in_front : resolved given (and (paren (x_at 9)) b) ≡ cue.conjunction (expressions_of (x_read true ∷ cue.reference (codes "B") ∷ []))
read_opened_in_front = refl

-- as it stands elsewhere
read_alone : resolved given (x_at 9) ≡ x_read false
read_alone = refl

read_with_others : resolved given (and_three b (x_at 9) (atom not_null)) ≡ cue.conjunction (expressions_of (cue.reference (codes "B") ∷ x_read false ∷ cue.atom cue.not_null ∷ []))
read_with_others = refl

read_without_base : resolved no_refinements (and b (x_at 9)) ≡ cue.conjunction (expressions_of (cue.reference (codes "B") ∷ x_read false ∷ []))
read_without_base = refl

-- `#B: {k: string}` keeps its closed literal, and `#C: #B & {k: "x"}` is read so
environment_of_both : environment_of (with_b (and b (x_at 29)))
    ≡ (codes "B", cue.struct (cue.declaration (codes "k") cue.regular (cue.kind cue.string) cue.no_declarations) false ∷ [])
    ∷ (codes "C", cue.conjunction (expressions_of (cue.reference (codes "B") ∷ x_read true ∷ [])) ∷ []) ∷ []
environment_of_both = refl
