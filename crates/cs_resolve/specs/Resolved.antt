-- What files resolve to (CUE language specification, "Definitions and hidden fields" and "Declarations and scopes").
use Rattle.std.specs.Prelude.{◌≡◌, ◌≤◌, Bool, true, false, List, [], map, length, unwrap_or}
use Rattle.std.specs.List.{flat_map}
use Rattle.cs_grammar.specs.Limits.{most_definitions, most_nodes}
use Rattle.cs_grammar.specs.Size.{nodes_of_files}
use Rattle.cs_grammar.specs.Tree as T
use Rattle.cs_grammar.specs.Tree.{Tree, Trees, Fields, End, FileTree, definitions}
use Rattle.cs_package.specs.Expression as cue
use Rattle.cs_package.specs.Expression.{Expression, Expressions, Declarations, Rest, mark_of}
use Rattle.cs_package.specs.Environment.{Environment}
use Rattle.cs_resolve.specs.Predeclared.{predeclared}
use Rattle.cs_resolve.specs.Declarations.{names, declared, faults_of_files}
use Rattle.cs_resolve.specs.Refinement.{Refinements, AreRefinements}
use Rattle.cs_resolve.specs.Opening.{IsOpened}
use Rattle.cs_resolve.specs.PackageName.{IsOnePackage}

-- An operand as it is read in a plain refinement: a struct literal as if it ended with `...`. So `{k: "x"}`, which has no
-- `...` in the source, is open in the environment, where all else is as it is written (own rule).
abbrev pub read_opened : Expression → Expression
read_opened (cue.atom a) = cue.atom a
read_opened (cue.kind k) = cue.kind k
read_opened (cue.range least greatest) = cue.range least greatest
read_opened (cue.reference n) = cue.reference n
read_opened (cue.conjunction es) = cue.conjunction es
read_opened (cue.disjunction es) = cue.disjunction es
read_opened (cue.struct ds opened) = cue.struct ds true
read_opened (cue.list es rest) = cue.list es rest

abbrev pub all_opened : Expressions → Expressions
all_opened cue.no_expressions = cue.no_expressions
all_opened (cue.expression e es) = cue.expression (read_opened e) (all_opened es)

-- the operands of a conjunction, and whether it is a plain refinement
abbrev pub narrowed_operands : Bool → Expressions → Expressions
narrowed_operands true es = all_opened es
narrowed_operands false es = es

-- names are replaced by what they name: where no name is at fault, every one is predeclared. These are the plain
-- refinements. A form of the wide profile is as `_|_`, here and in all that is counted or checked: files are widened first.
abbrev mutual
  pub resolved : Refinements → Tree → Expression
  resolved rs (T.atom a) = cue.atom a
  resolved rs (T.named t o) = unwrap_or (predeclared t) (cue.atom cue.bottom)
  resolved rs (T.reference t o) = cue.reference t
  resolved rs (T.conjunction ts) = cue.conjunction (narrowed_operands (rs ts) (resolved_all rs ts))
  resolved rs (T.disjunction ts) = cue.disjunction (resolved_all rs ts)
  resolved rs (T.paren t) = resolved rs t
  resolved rs (T.struct o fs opened) = cue.struct (resolved_fields rs fs) opened
  resolved rs (T.list ts end) = cue.list (resolved_all rs ts) (resolved_end rs end)
  resolved rs (T.wide w) = cue.atom cue.bottom

  pub resolved_all : Refinements → Trees → Expressions
  resolved_all rs T.none = cue.no_expressions
  resolved_all rs (T.more t ts) = cue.expression (resolved rs t) (resolved_all rs ts)

  pub resolved_fields : Refinements → Fields → Declarations
  resolved_fields rs T.no_field = cue.no_declarations
  resolved_fields rs (T.field l m t fs) = cue.declaration l.text (mark_of m) (resolved rs t) (resolved_fields rs fs)

  pub resolved_end : Refinements → End → Rest
  resolved_end rs T.closed = cue.closed
  resolved_end rs T.any = cue.any
  resolved_end rs (T.each t) = cue.each (resolved rs t)

-- each declared name with its resolved bodies, where these are the plain refinements
abbrev pub environment_of_files : Refinements → List FileTree → Environment
environment_of_files rs fs = map (λ d. (d.0, map (resolved rs) d.1)) (declared (flat_map definitions fs))

-- no name is at fault
abbrev pub IsResolved : List FileTree → Type 0
IsResolved fs = faults_of_files fs ≡ []

-- distinct names of definitions, over all files, and nodes of all their bodies, where a form of the wide profile counts as one
pub record IsSmall (fs : List FileTree) : Type 0 where
  pub definitions : length (names (flat_map definitions fs)) ≤ most_definitions
  pub nodes : nodes_of_files fs ≤ most_nodes

-- the files are one package, and declare the environment
pub record IsPackage (fs : List FileTree) (E : Environment) : Type 0 where
  pub agree : IsOnePackage fs
  pub small : IsSmall fs
  pub resolved : IsResolved fs
  -- by the plain refinements of its definitions the opening rule is kept, and the literals are read
  pub refinements : Refinements
  pub are_refinements : AreRefinements (flat_map definitions fs) refinements
  pub opened : IsOpened refinements fs
  pub declares : E ≡ environment_of_files refinements fs
