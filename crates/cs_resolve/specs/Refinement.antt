-- Plain refinement (own rule): a closed definition is narrowed by a literal with some of its labels.
use Rattle.std.specs.Prelude.{◌≡◌, ◌↔◌, ℕ, Bool, true, false, ◌&&◌, ◌||◌, not, List, [], ◌∷◌, map, Option, Some, None, if◌then◌else◌}
use Rattle.std.specs.List.{list_any}
use Rattle.std.specs.Str.{bytes_eq}
use Rattle.cs_grammar.specs.declared.ast.FieldMark.{FieldMark}
use Rattle.cs_grammar.specs.declared.ast.FieldMark.TheVariants.{Regular, Optional, Required, Every}
use Rattle.cs_grammar.specs.Tree.{Tree, atom, named, reference, conjunction, disjunction, paren, struct, list, wide, Trees, none, more, Fields, no_field, field, DefinitionTree}
pub use Rattle.cs_grammar.specs.Referred.{referred}
use Rattle.cs_resolve.specs.Declarations.{bodies_of}
use Rattle.cs_resolve.specs.Plain.{has_literal_or_reference}
use Rattle.cs_resolve.specs.Scopes.{labels}

-- ---- the two operands, parentheses taken away

abbrev pub is_every : FieldMark → Bool
is_every Regular = false
is_every Optional = false
is_every Required = false
is_every (Every o) = true

abbrev pub has_every_key : Fields → Bool
has_every_key no_field = false
has_every_key (field l m e fs) = is_every m || has_every_key fs

-- the fields of a struct literal without `...` and without `[string]`
abbrev pub closed_literal : Tree → Option Fields
closed_literal (atom a) = None
closed_literal (named n o) = None
closed_literal (reference n o) = None
closed_literal (conjunction es) = None
closed_literal (disjunction es) = None
closed_literal (paren e) = closed_literal e
closed_literal (struct o fs opened) = if opened || has_every_key fs then None else Some fs
closed_literal (list es end) = None
closed_literal (wide w) = None

-- which definition is narrowed, and by which fields
abbrev pub Narrowing : Type 0
Narrowing = List ℕ × Fields

abbrev pub narrowing_of : Option (List ℕ) → Option Fields → Option Narrowing
narrowing_of None fields = None
narrowing_of (Some n) None = None
narrowing_of (Some n) (Some fs) = Some (n, fs)

abbrev pub or_else : Option Narrowing → Option Narrowing → Option Narrowing
or_else None other = other
or_else (Some n) other = Some n

-- of operands that `&` joins: a reference and a closed literal, in either order, and no others
abbrev pub narrowing : Trees → Option Narrowing
narrowing none = None
narrowing (more a none) = None
narrowing (more a (more b none)) = or_else (narrowing_of (referred a) (closed_literal b)) (narrowing_of (referred b) (closed_literal a))
narrowing (more a (more b (more c es))) = None

-- of a body
abbrev pub narrowing_in : Tree → Option Narrowing
narrowing_in (atom a) = None
narrowing_in (named n o) = None
narrowing_in (reference n o) = None
narrowing_in (conjunction es) = narrowing es
narrowing_in (disjunction es) = None
narrowing_in (paren e) = narrowing_in e
narrowing_in (struct o fs opened) = None
narrowing_in (list es end) = None
narrowing_in (wide w) = None

-- ---- closed bases

abbrev pub texts : Fields → List (List ℕ)
texts fs = map (λ l. l.text) (labels fs)

-- each label is one of these, and each value is plain
abbrev pub narrows : Fields → List (List ℕ) → Bool
narrows no_field ls = true
narrows (field l m e fs) ls = list_any (bytes_eq l.text) ls && not (has_literal_or_reference e) && narrows fs ls

-- the definition n is a closed base with these labels: its one body is a closed literal, or a plain refinement of a
-- closed base, whose labels it has. It is the least such relation, so what refines itself is none
pub data IsBase (ds : List DefinitionTree) : List ℕ → List (List ℕ) → Type 0 where
  by_literal : {n : List ℕ} {e : Tree} {fs : Fields} → bodies_of n ds ≡ e ∷ [] → closed_literal e ≡ Some fs → IsBase ds n (texts fs)
  by_refinement : {n m : List ℕ} {e : Tree} {fs : Fields} {ls : List (List ℕ)} → bodies_of n ds ≡ e ∷ [] → narrowing_in e ≡ Some (m, fs) → IsBase ds m ls → narrows fs ls ≡ true → IsBase ds n ls

-- ---- plain refinements

-- operands that `&` joins are a plain refinement: one names a closed base, and the other narrows it
pub record IsRefinement (ds : List DefinitionTree) (es : Trees) : Type 0 where
  pub base : List ℕ
  pub fields : Fields
  pub labels : List (List ℕ)
  pub joins : narrowing es ≡ Some (base, fields)
  pub closed : IsBase ds base labels
  pub fits : narrows fields labels ≡ true

-- which operands that `&` joins are a plain refinement
abbrev pub Refinements : Type 0
Refinements = Trees → Bool

-- they are just those of the definitions
abbrev pub AreRefinements : List DefinitionTree → Refinements → Type 0
AreRefinements ds rs = (es : Trees) → (rs es ≡ true) ↔ IsRefinement ds es
