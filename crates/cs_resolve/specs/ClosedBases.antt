-- Closed bases and plain refinements by computation, in so many steps. The law `refinement_law` says that they are those of
-- the least relation.
use Rattle.std.specs.Prelude.{ℕ, zero, suc, Bool, true, false, List, [], ◌∷◌, length, Option, Some, None, if◌then◌else◌}
use Rattle.cs_grammar.specs.Tree.{Tree, Fields, DefinitionTree}
use Rattle.cs_resolve.specs.Declarations.{bodies_of}
use Rattle.cs_resolve.specs.Refinement.{closed_literal, Narrowing, narrowing, narrowing_in, texts, narrows, Refinements}

-- the labels of each definition that is a closed base
abbrev pub Bases : Type 0
Bases = List ℕ → Option (List (List ℕ))

abbrev pub narrowed_labels : Option (List (List ℕ)) → Fields → Option (List (List ℕ))
narrowed_labels None fs = None
narrowed_labels (Some ls) fs = if narrows fs ls then Some ls else None

abbrev pub narrowed : Bases → Option Narrowing → Option (List (List ℕ))
narrowed bs None = None
narrowed bs (Some (m, fs)) = narrowed_labels (bs m) fs

abbrev pub labels_or : Option Fields → Option (List (List ℕ)) → Option (List (List ℕ))
labels_or None ls = ls
labels_or (Some fs) ls = Some (texts fs)

-- the labels that a definition has by its bodies, where these are the bases that it may refine
abbrev pub base_of : Bases → List Tree → Option (List (List ℕ))
base_of bs [] = None
base_of bs (e ∷ []) = labels_or (closed_literal e) (narrowed bs (narrowing_in e))
base_of bs (e ∷ f ∷ es) = None

-- those that are less than so many refinements away from a literal
abbrev pub bases_within : ℕ → List DefinitionTree → Bases
bases_within zero ds n = None
bases_within (suc k) ds n = base_of (bases_within k ds) (bodies_of n ds)

-- all of them: as many steps as there are definitions are enough
abbrev pub bases : List DefinitionTree → Bases
bases ds = bases_within (length ds) ds

abbrev pub is_some_labels : Option (List (List ℕ)) → Bool
is_some_labels None = false
is_some_labels (Some ls) = true

-- whether operands that `&` joins are a plain refinement of one of these
abbrev pub is_refinement : Bases → Refinements
is_refinement bs es = is_some_labels (narrowed bs (narrowing es))
