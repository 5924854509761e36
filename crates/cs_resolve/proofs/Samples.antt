-- Samples, worked by the definitions.
use Rattle.std.proofs.Common.{◌≡◌, ℕ, true, false, List, [], ◌∷◌, pos, codes, refl}
use Rattle.cs_grammar.specs.Tree.{Label, written_label, Tree, atom, named, reference, conjunction, paren, struct, none, more, Fields, no_field, field, definition, file}
use Rattle.cs_grammar.specs.Atom as atoms
use Rattle.cs_grammar.specs.Atom.{top, bottom, integer, bound}
use Rattle.cs_grammar.specs.declared.ast.FieldMark.TheVariants.{Regular, Every}
use Rattle.cs_grammar.specs.Spells.{every_label}
use Rattle.cs_package.specs.Expression as cue
use Rattle.cs_package.specs.Height.{height, heights}
use Rattle.cs_resolve.specs.Resolved.{environment_of_files}
use Rattle.cs_resolve.specs.Opening.{conjunctions}
use Rattle.cs_resolve.specs.Unopened.{unopened}
use Rattle.cs_resolve.specs.Earlier.{no_refinements}
use Rattle.cs_resolve.specs.Scopes.{places, faults, unknown, of_field}
use Rattle.cs_resolve.specs.Declarations.{names, faults_of_files}
use Rattle.cs_resolve.specs.DifferingFile.{differing_file}
use Rattle.std.proofs.Common.{Some, None}
use Rattle.cs_resolve.proofs.Refined.{unopened_of}

abbrev plain : List ℕ → Label
plain t = written_label t false

abbrev quoted : List ℕ → Label
quoted t = written_label t true

-- `x: 1`
abbrev one : List ℕ → Fields
one t = field (plain t) Regular (atom (integer (pos 1))) no_field

-- `[string]`, of which the name stands at o
abbrev every : ℕ → Tree → Fields → Fields
every o e fs = field every_label (Every o) e fs

-- ---- the opening rule

-- `{a: {p: 1, ...}, b: {q: 1}, b: {r: 1, ...}, a: {s: 1}}`: the literals of q and s, in this order
first_of_all : unopened no_refinements false (struct 4 (field (plain (codes "a")) Regular (struct 8 (one (codes "p")) true)
    (field (plain (codes "b")) Regular (struct 24 (one (codes "q")) false)
    (field (plain (codes "b")) Regular (struct 35 (one (codes "r")) true)
    (field (plain (codes "a")) Regular (struct 51 (one (codes "s")) false) no_field)))) false) ≡ 24 ∷ 51 ∷ []
first_of_all = refl

-- `{a: {b: 1}, ...} & {...}`: the literal inside
inside : unopened no_refinements false (conjunction (more (struct 4 (field (plain (codes "a")) Regular (struct 8 (one (codes "b")) false) no_field) true) (more (struct 23 no_field true) none))) ≡ 8 ∷ []
inside = refl

-- `(#A & {x: 1, ...}) & int`: a parenthesis is one operand
one_operand : unopened no_refinements false (conjunction (more (paren (conjunction (more (reference (codes "A") 5) (more (struct 10 (one (codes "x")) true) none)))) (more (named (codes "int") 30) none))) ≡ []
one_operand = refl

-- `(#A & #B) & {x: 1}`: two operands that aren't plain
two_operands : unopened no_refinements false (conjunction (more (paren (conjunction (more (reference (codes "A") 5) (more (reference (codes "B") 10) none)))) (more (struct 16 (one (codes "x")) false) none))) ≡ 16 ∷ []
two_operands = refl

-- `{"a": #A, a: {x: 1}}`: a quoted label and an identifier are one label
one_label : unopened no_refinements false (struct 4 (field (quoted (codes "a")) Regular (reference (codes "A") 10) (field (plain (codes "a")) Regular (struct 17 (one (codes "x")) false) no_field)) false) ≡ 17 ∷ []
one_label = refl

-- `#A: {x: 1}` in one file and `#A: {...}` in the next: the literal of the first file
two_files : unopened_of (file None (definition (codes "A") 0 (struct 4 (one (codes "x")) false) ∷ []) [] ∷ file None (definition (codes "A") 0 (struct 4 no_field true) ∷ []) [] ∷ []) ≡ (0, 4) ∷ []
two_files = refl

-- `#A: {a: b: int, a: c: int}`: two short fields of one label, so both literals, each at its own label
short_fields : unopened_of (file None (definition (codes "A") 0 (struct 4 (field (plain (codes "a")) Regular (struct 8 (field (plain (codes "b")) Regular (named (codes "int") 11) no_field) false)
    (field (plain (codes "a")) Regular (struct 19 (field (plain (codes "c")) Regular (named (codes "int") 22) no_field) false) no_field)) false) ∷ []) [] ∷ []) ≡ (0, 8) ∷ (0, 19) ∷ []
short_fields = refl

-- `#B: 1` and `#A: {a: {x: 1}, ...}` in one file and `#A: #B` in the next: the literal inside the opened one
inside_a_body : unopened_of (file None (definition (codes "B") 0 (atom (integer (pos 1))) ∷ definition (codes "A") 6 (struct 10 (field (plain (codes "a")) Regular (struct 14 (one (codes "x")) false) no_field) true) ∷ []) [] ∷ file None (definition (codes "A") 0 (reference (codes "B") 4) ∷ []) [] ∷ []) ≡ (0, 14) ∷ []
inside_a_body = refl

-- ---- the opening rule for `[string]`

-- `{[string]: {x: 1}, a: {y: 1}}`: both literals, since `a` is declared by both
label_and_every : unopened no_refinements false (struct 4 (every 6 (struct 15 (one (codes "x")) false) (field (plain (codes "a")) Regular (struct 26 (one (codes "y")) false) no_field)) false) ≡ 15 ∷ 26 ∷ []
label_and_every = refl

-- `{a: {y: 1}, [string]: {x: 1}}`: likewise in the other order
every_behind : unopened no_refinements false (struct 4 (field (plain (codes "a")) Regular (struct 8 (one (codes "y")) false) (every 17 (struct 26 (one (codes "x")) false) no_field)) false) ≡ 8 ∷ 26 ∷ []
every_behind = refl

-- `{[string]: #B, a: {x: 1}}`: the literal of `a`
every_reference : unopened no_refinements false (struct 4 (every 6 (reference (codes "B") 15) (field (plain (codes "a")) Regular (struct 22 (one (codes "x")) false) no_field)) false) ≡ 22 ∷ []
every_reference = refl

-- `{[string]: {x: 1, ...}, a: {y: 1, ...}}`: none
every_opened : unopened no_refinements false (struct 4 (every 6 (struct 15 (one (codes "x")) true) (field (plain (codes "a")) Regular (struct 31 (one (codes "y")) true) no_field)) false) ≡ []
every_opened = refl

-- `{[string]: {x: 1}, a: int}`: none, since `int` is plain; and `{[string]: int, a: {x: 1}, b: {y: 1}}`: none
every_and_plain : unopened no_refinements false (struct 4 (every 6 (struct 15 (one (codes "x")) false) (field (plain (codes "a")) Regular (named (codes "int") 26) no_field)) false) ≡ []
every_and_plain = refl

plain_every : unopened no_refinements false (struct 4 (every 6 (named (codes "int") 15) (field (plain (codes "a")) Regular (struct 23 (one (codes "x")) false) (field (plain (codes "b")) Regular (struct 34 (one (codes "y")) false) no_field))) false) ≡ []
plain_every = refl

-- `{[string]: {x: 1}, a: int, b: #B}`: the literal, which `b` asks for
every_of_some : unopened no_refinements false (struct 4 (every 6 (struct 15 (one (codes "x")) false) (field (plain (codes "a")) Regular (named (codes "int") 26) (field (plain (codes "b")) Regular (reference (codes "B") 34) no_field))) false) ≡ 15 ∷ []
every_of_some = refl

-- `{[string]: {x: 1}, [string]: {y: 1}}`: a repeated label, also without labels
two_every : unopened no_refinements false (struct 4 (every 6 (struct 15 (one (codes "x")) false) (every 24 (struct 33 (one (codes "y")) false) no_field)) false) ≡ 15 ∷ 33 ∷ []
two_every = refl

-- `{"": {x: 1}, a: {[string]: {y: 1}}}`: none, since `[string]` is that of the inner literal alone
inner_every : unopened no_refinements false (struct 4 (field (quoted []) Regular (struct 9 (one (codes "x")) false) (field (plain (codes "a")) Regular (struct 20 (every 22 (struct 31 (one (codes "y")) false) no_field) false) no_field)) false) ≡ []
inner_every = refl

-- the conjunctions of `{[string]: #A, a: #B, "": #C}`: that of every key, and with it those of `a` and of the empty label
every_in_each : conjunctions no_refinements (struct 4 (every 6 (reference (codes "A") 15) (field (plain (codes "a")) Regular (reference (codes "B") 22) (field (quoted []) Regular (reference (codes "C") 30) no_field))) false)
    ≡ (reference (codes "A") 15 ∷ []) ∷ (reference (codes "A") 15 ∷ reference (codes "B") 22 ∷ []) ∷ (reference (codes "A") 15 ∷ reference (codes "C") 30 ∷ []) ∷ []
every_in_each = refl

-- ---- package names

-- `package p`, no clause, `package q`: the third file
third_file : differing_file (file (Some (codes "p")) [] [] ∷ file None [] [] ∷ file (Some (codes "q")) [] [] ∷ []) ≡ Some 2
third_file = refl

-- no clause, `package p`, `package p`
joins_any : differing_file (file None [] [] ∷ file (Some (codes "p")) [] [] ∷ file (Some (codes "p")) [] [] ∷ []) ≡ None
joins_any = refl

-- ---- names

-- `{x: x}`: a field is named, its own one too
own_field : faults [] (places [] (struct 4 (field (plain (codes "x")) Regular (named (codes "x") 8) no_field) false)) ≡ of_field 8 ∷ []
own_field = refl

-- `{"x": x}`: a quoted label names nothing
quoted_label : faults [] (places [] (struct 4 (field (quoted (codes "x")) Regular (named (codes "x") 10) no_field) false)) ≡ unknown 10 ∷ []
quoted_label = refl

-- `{int: string, x: int}`: the last `int` names the field
field_named_int : faults [] (places [] (struct 4 (field (plain (codes "int")) Regular (named (codes "string") 10) (field (plain (codes "x")) Regular (named (codes "int") 21) no_field)) false)) ≡ of_field 21 ∷ []
field_named_int = refl

-- `{"int": string, x: int}`: none
quoted_int : faults [] (places [] (struct 4 (field (quoted (codes "int")) Regular (named (codes "string") 12) (field (plain (codes "x")) Regular (named (codes "int") 23) no_field)) false)) ≡ []
quoted_int = refl

-- `x: y: x`, where both fields are short: the outer field is named
outer_field : faults [] (places [] (struct 4 (field (plain (codes "x")) Regular (struct 7 (field (plain (codes "y")) Regular (named (codes "x") 10) no_field) false) no_field) false)) ≡ of_field 10 ∷ []
outer_field = refl

-- `{[string]: int}`, and `{"string": int, [string]: int}`: the predeclared kind is named
name_of_every : faults [] (places [] (struct 4 (every 6 (named (codes "int") 15) no_field) false)) ≡ []
name_of_every = refl

quoted_string : faults [] (places [] (struct 4 (field (quoted (codes "string")) Regular (named (codes "int") 15) (every 21 (named (codes "int") 30) no_field)) false)) ≡ []
quoted_string = refl

-- `{[string]: string, string: int}`: a field is named, in order of the text
own_string : faults [] (places [] (struct 4 (every 6 (named (codes "string") 15) (field (plain (codes "string")) Regular (named (codes "int") 31) no_field)) false)) ≡ of_field 6 ∷ of_field 15 ∷ []
own_string = refl

-- `{string: {[string]: int}}`: a field of a literal around is named
outer_string : faults [] (places [] (struct 4 (field (plain (codes "string")) Regular (struct 13 (every 15 (named (codes "int") 24) no_field) false) no_field) false)) ≡ of_field 15 ∷ []
outer_string = refl

-- `{"": string, [string]: int}`: `[string]` is no declaration of the empty label, and nothing is at fault
empty_label : faults [] (places [] (struct 4 (field (quoted []) Regular (named (codes "string") 9) (every 18 (named (codes "int") 27) no_field)) false)) ≡ []
empty_label = refl

-- `float`, and `#B` where `#A` alone is declared: unknown
unknown_names : faults (codes "A" ∷ []) (places [] (conjunction (more (named (codes "float") 4) (more (reference (codes "B") 12) none)))) ≡ unknown 4 ∷ unknown 12 ∷ []
unknown_names = refl

-- `#A: {x: #B}` in one file alone: the reference in file 0
undeclared : faults_of_files (file None (definition (codes "A") 10 (struct 14 (field (plain (codes "x")) Regular (reference (codes "B") 18) no_field) false) ∷ []) [] ∷ []) ≡ (0, unknown 18) ∷ []
undeclared = refl

-- `#A`, `#B`, `#A`: two names, in order of first declaration
two_names : names (definition (codes "A") 0 (atom top) ∷ definition (codes "B") 5 (atom top) ∷ definition (codes "A") 10 (atom bottom) ∷ []) ≡ codes "A" ∷ codes "B" ∷ []
two_names = refl

-- ---- environments

-- `#A: int`, `#B: 1`, `#A: >2 & 3`: two definitions, of which the first has two bodies
two_bodies : environment_of_files no_refinements (file None (definition (codes "A") 0 (named (codes "int") 4) ∷ []) [] ∷ file None (definition (codes "B") 0 (atom (integer (pos 1))) ∷ []) [] ∷ file None (definition (codes "A") 0 (conjunction (more (atom (bound atoms.more (pos 2))) (more (atom (integer (pos 3))) none))) ∷ []) [] ∷ [])
    ≡ (codes "A", cue.kind cue.int ∷ cue.conjunction (cue.expression (cue.atom (cue.bound cue.more (pos 2))) (cue.expression (cue.atom (cue.integer (pos 3))) cue.no_expressions)) ∷ []) ∷ (codes "B", cue.atom (cue.integer (pos 1)) ∷ []) ∷ []
two_bodies = refl

-- `{}` and `{a: int & 1}`
heights_of_two : heights (cue.struct cue.no_declarations false ∷ cue.struct (cue.declaration (codes "a") cue.regular (cue.conjunction (cue.expression (cue.kind cue.int) (cue.expression (cue.atom (cue.integer (pos 1))) cue.no_expressions))) cue.no_declarations) false ∷ []) ≡ 3
heights_of_two = refl

-- `{}` alone
height_of_none : height (cue.struct cue.no_declarations false) ≡ 1
height_of_none = refl
