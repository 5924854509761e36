-- The opening rule (own rule). An operand is plain where it holds no struct literal and no reference. Where two or
-- more operands of a conjunction aren't plain, each struct literal in its operands, at any depth, ends with `...`. The
-- `&` of a plain refinement asks nothing.
use Rattle.std.specs.Prelude.{◌≡◌, ℕ, ◌≤◌, Bool, true, false, if◌then◌else◌, ◌⊎◌, List, [], ◌∷◌, ◌++◌, map, filter, count_by}
use Rattle.std.specs.List.{AllByRecursion, flat_map}
use Rattle.std.specs.Str.{bytes_eq}
use Rattle.cs_grammar.specs.declared.ast.FieldMark.{FieldMark}
use Rattle.cs_grammar.specs.declared.ast.FieldMark.TheVariants.{Regular, Optional, Required, Every}
pub use Rattle.cs_resolve.specs.Plain.{has_literal_or_reference, has_literal_or_reference_some, has_literal_or_reference_end}
use Rattle.cs_resolve.specs.Refinement.{Refinements}
use Rattle.cs_grammar.specs.Tree.{Label, Tree, atom, named, reference, conjunction, disjunction, paren, struct, list, wide, Trees, none, more, Fields, no_field, field, End, closed, any, each, DefinitionTree, defined_name, body, FileTree, definitions}

-- ---- operands, literals and conjunctions

-- a struct literal: where it stands, and whether it ends with `...`
pub record Literal : Type 0 where
  pub at : ℕ
  pub opened : Bool

-- the struct literals in an expression, at any depth, in order of the text; references aren't followed
abbrev mutual
  pub literals : Tree → List Literal
  literals (atom a) = []
  literals (named n o) = []
  literals (reference n o) = []
  literals (conjunction es) = literals_all es
  literals (disjunction es) = literals_all es
  literals (paren e) = literals e
  literals (struct o fs opened) = record { at = o; opened = opened } ∷ literals_fields fs
  literals (list es end) = literals_all es ++ literals_end end
  literals (wide w) = []

  pub literals_all : Trees → List Literal
  literals_all none = []
  literals_all (more e es) = literals e ++ literals_all es

  pub literals_fields : Fields → List Literal
  literals_fields no_field = []
  literals_fields (field l m e fs) = literals e ++ literals_fields fs

  pub literals_end : End → List Literal
  literals_end closed = []
  literals_end any = []
  literals_end (each e) = literals e

abbrev pub operands : Trees → List Tree
operands none = []
operands (more e es) = e ∷ operands es

-- what a value is declared for: one name, or every key
pub data Declared : Type 0 where
  one : List ℕ → Declared
  every_key : Declared

-- a value under a name: a field's under its label, or a body under the name of its definition
pub record Named : Type 0 where
  pub name : Declared
  pub value : Tree

-- an identifier label and a quoted one with the same text are one
abbrev pub declared_for : Label → FieldMark → Declared
declared_for l Regular = one l.text
declared_for l Optional = one l.text
declared_for l Required = one l.text
declared_for l (Every o) = every_key

abbrev pub named_fields : Fields → List Named
named_fields no_field = []
named_fields (field l m e fs) = record { name = declared_for l m; value = e } ∷ named_fields fs

abbrev pub named_bodies : List DefinitionTree → List Named
named_bodies ds = map (λ d. record { name = one (defined_name d); value = body d }) ds

-- what is declared for every key is declared for each name too
abbrev pub covers : Declared → Declared → Bool
covers every_key d = true
covers (one s) (one t) = bytes_eq s t
covers (one s) every_key = false

-- the values that are declared for a name, or for every key, in order
abbrev pub values : Declared → List Named → List Tree
values d ns = map (λ n. n.value) (filter (λ n. covers n.name d) ns)

-- the values of each name
abbrev pub values_of_each : List Named → List (List Tree)
values_of_each ns = map (λ n. values n.name ns) ns

-- the conjunction of operands that `&` joins: a plain refinement is none
abbrev pub joined : Refinements → Trees → List (List Tree)
joined rs es = if rs es then [] else operands es ∷ []

-- the conjunctions in an expression, at any depth, each by its operands: those that `&` joins, where a parenthesis is
-- one operand, and the values of each label of one literal, those of `[string]` among them
abbrev mutual
  pub conjunctions : Refinements → Tree → List (List Tree)
  conjunctions rs (atom a) = []
  conjunctions rs (named n o) = []
  conjunctions rs (reference n o) = []
  conjunctions rs (conjunction es) = joined rs es ++ conjunctions_all rs es
  conjunctions rs (disjunction es) = conjunctions_all rs es
  conjunctions rs (paren e) = conjunctions rs e
  conjunctions rs (struct o fs opened) = values_of_each (named_fields fs) ++ conjunctions_fields rs fs
  conjunctions rs (list es end) = conjunctions_all rs es ++ conjunctions_end rs end
  conjunctions rs (wide w) = []

  pub conjunctions_all : Refinements → Trees → List (List Tree)
  conjunctions_all rs none = []
  conjunctions_all rs (more e es) = conjunctions rs e ++ conjunctions_all rs es

  pub conjunctions_fields : Refinements → Fields → List (List Tree)
  conjunctions_fields rs no_field = []
  conjunctions_fields rs (field l m e fs) = conjunctions rs e ++ conjunctions_fields rs fs

  pub conjunctions_end : Refinements → End → List (List Tree)
  conjunctions_end rs closed = []
  conjunctions_end rs any = []
  conjunctions_end rs (each e) = conjunctions rs e

-- the conjunctions of definitions: the bodies of each, and those inside each body
abbrev pub all_conjunctions : Refinements → List DefinitionTree → List (List Tree)
all_conjunctions rs ds = values_of_each (named_bodies ds) ++ flat_map (λ d. conjunctions rs (body d)) ds

-- ---- the rule

-- at most one operand isn't plain, or each struct literal in the operands ends with `...`
abbrev pub KeepsRule : List Tree → Type 0
KeepsRule es = (count_by has_literal_or_reference es ≤ 1) ⊎ AllByRecursion (λ (l : Literal). l.opened ≡ true) (flat_map literals es)

-- every conjunction keeps the rule, where these are the plain refinements
abbrev pub IsOpened : Refinements → List FileTree → Type 0
IsOpened rs fs = AllByRecursion KeepsRule (all_conjunctions rs (flat_map definitions fs))
