-- The literals that break the opening rule, in order of the text, where these are the plain refinements.
use Rattle.std.specs.Prelude.{◌≡◌, ℕ, suc, Bool, true, false, ◌&&◌, ◌||◌, not, ◌⊎◌, List, [], ◌∷◌, ◌++◌, map, count_by, nat_lt, Some, slice_get, Any, Contains}
use Rattle.std.specs.List.{flat_map, list_any}
use Rattle.cs_grammar.specs.Tree.{Tree, atom, named, reference, conjunction, disjunction, paren, struct, list, wide, Trees, none, more, Fields, no_field, field, End, closed, any, each, DefinitionTree, defined_name, body, FileTree, definitions}
use Rattle.cs_resolve.specs.Opening.{has_literal_or_reference, Literal, literals, operands, Declared, one, every_key, Named, declared_for, named_fields, named_bodies, values, conjunctions}
use Rattle.cs_resolve.specs.Refinement.{Refinements}

-- a conjunction of these operands asks its literals to end with `...`
abbrev pub demands_open : List Tree → Bool
demands_open es = nat_lt 1 (count_by has_literal_or_reference es)

abbrev pub at_fault : Bool → Bool → ℕ → List ℕ
at_fault true false o = o ∷ []
at_fault true true o = []
at_fault false opened o = []

-- whether a conjunction that holds a value of this name asks its literals; a value of every key is in that of each name
abbrev pub demands_open_of : Declared → List Named → Bool
demands_open_of (one t) ns = demands_open (values (one t) ns)
demands_open_of every_key ns = list_any (λ n. demands_open (values n.name ns)) ns

-- whether operands that `&` joins ask their literals
abbrev pub joined_demand_open : Refinements → Trees → Bool
joined_demand_open rs es = demands_open (operands es) && not (rs es)

-- the literals that don't end with `...` though a conjunction around them asks it; `demanded` says whether one around the
-- expression does
abbrev mutual
  pub unopened : Refinements → Bool → Tree → List ℕ
  unopened rs demanded (atom a) = []
  unopened rs demanded (named n o) = []
  unopened rs demanded (reference n o) = []
  unopened rs demanded (conjunction es) = unopened_all rs (demanded || joined_demand_open rs es) es
  unopened rs demanded (disjunction es) = unopened_all rs demanded es
  unopened rs demanded (paren e) = unopened rs demanded e
  unopened rs demanded (struct o fs opened) = at_fault demanded opened o ++ unopened_fields rs demanded (named_fields fs) fs
  unopened rs demanded (list es end) = unopened_all rs demanded es ++ unopened_end rs demanded end
  unopened rs demanded (wide w) = []

  pub unopened_all : Refinements → Bool → Trees → List ℕ
  unopened_all rs demanded none = []
  unopened_all rs demanded (more e es) = unopened rs demanded e ++ unopened_all rs demanded es

  -- all are the values of the literal, under their labels
  pub unopened_fields : Refinements → Bool → List Named → Fields → List ℕ
  unopened_fields rs demanded all no_field = []
  unopened_fields rs demanded all (field l m e fs) = unopened rs (demanded || demands_open_of (declared_for l m) all) e ++ unopened_fields rs demanded all fs

  pub unopened_end : Refinements → Bool → End → List ℕ
  unopened_end rs demanded closed = []
  unopened_end rs demanded any = []
  unopened_end rs demanded (each e) = unopened rs demanded e

-- of some definitions, where all are the bodies of the package, under their names
abbrev pub unopened_definitions : Refinements → List Named → List DefinitionTree → List ℕ
unopened_definitions rs all ds = flat_map (λ d. unopened rs (demands_open (values (one (defined_name d)) all)) (body d)) ds

-- of files from a number on, each literal with the number of its file
abbrev pub unopened_from : Refinements → ℕ → List Named → List FileTree → List (ℕ × ℕ)
unopened_from rs i all [] = []
unopened_from rs i all (f ∷ fs) = map (λ o. (i, o)) (unopened_definitions rs all (definitions f)) ++ unopened_from rs (suc i) all fs

-- by file, and then in order of the text
abbrev pub unopened_files : Refinements → List FileTree → List (ℕ × ℕ)
unopened_files rs fs = unopened_from rs 0 (named_bodies (flat_map definitions fs)) fs

-- ---- the same literals, by the conjunctions that hold them

-- a literal in the body of d is in a conjunction that asks: that of the bodies under the name of d, where ds are all
-- definitions, or one inside the body
abbrev pub IsDemanded : Refinements → List DefinitionTree → DefinitionTree → Literal → Type 0
IsDemanded rs ds d l =
    ((demands_open (values (one (defined_name d)) (named_bodies ds)) ≡ true) × Contains (literals (body d)) l)
    ⊎ Any (λ es. (demands_open es ≡ true) × Contains (flat_map literals es) l) (conjunctions rs (body d))

-- at offset o of the file at number i stands a literal that is asked to end with `...` and doesn't
pub record IsUnopenedAt (rs : Refinements) (fs : List FileTree) (i o : ℕ) : Type 0 where
  pub source : FileTree
  pub numbered : slice_get fs i ≡ Some source
  pub declared : DefinitionTree
  pub in_source : Contains (definitions source) declared
  pub literal : Literal
  pub at_offset : literal.at ≡ o
  pub not_opened : literal.opened ≡ false
  pub demanded : IsDemanded rs (flat_map definitions fs) declared literal
