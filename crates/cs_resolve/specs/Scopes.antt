-- What a name names (CUE language specification, "Declarations and scopes"): it is looked for from its place outward,
-- through the struct literals around it, and then among the predeclared names.
use Rattle.std.specs.Prelude.{ℕ, Bool, true, false, ◌&&◌, not, List, [], ◌∷◌, ◌++◌, Option, Some, None, is_some, if◌then◌else◌, codes}
use Rattle.std.specs.List.{list_any, flat_map}
use Rattle.std.specs.Str.{bytes_eq}
use Rattle.cs_grammar.specs.declared.ast.FieldMark.{FieldMark}
use Rattle.cs_grammar.specs.declared.ast.FieldMark.TheVariants.{Regular, Optional, Required, Every}
use Rattle.cs_grammar.specs.Tree.{Label, Tree, atom, named, reference, conjunction, disjunction, paren, struct, list, wide, Trees, none, more, Fields, no_field, field, End, closed, any, each}
use Rattle.cs_resolve.specs.Predeclared.{predeclared}

abbrev pub labels : Fields → List Label
labels no_field = []
labels (field l m e fs) = l ∷ labels fs

-- a quoted label can't be referred to
abbrev pub is_label : List ℕ → Label → Bool
is_label t l = not l.quotes && bytes_eq l.text t

abbrev pub has_label : List ℕ → List Label → Bool
has_label t ls = list_any (is_label t) ls

-- the innermost of the literals around that has a field with that identifier label; the literals, each by its labels,
-- stand innermost first
abbrev pub innermost : List ℕ → List (List Label) → Option (List Label)
innermost t [] = None
innermost t (ls ∷ around) = if has_label t ls then Some ls else innermost t around

abbrev pub names_field : List ℕ → List (List Label) → Bool
names_field t around = is_some (innermost t around)

-- a place where a name or a reference stands, a name with the literals around it, innermost first
pub data Place : Type 0 where
  a_name : List (List Label) → List ℕ → ℕ → Place
  a_reference : List ℕ → ℕ → Place

-- the name in the brackets of `[string]`
abbrev pub key_places : List (List Label) → FieldMark → List Place
key_places around Regular = []
key_places around Optional = []
key_places around Required = []
key_places around (Every o) = a_name around (codes "string") o ∷ []

-- the places of an expression, in order of the text; a field's own literal is around its value and its `[string]`
abbrev mutual
  pub places : List (List Label) → Tree → List Place
  places around (atom a) = []
  places around (named t o) = a_name around t o ∷ []
  places around (reference t o) = a_reference t o ∷ []
  places around (conjunction es) = places_all around es
  places around (disjunction es) = places_all around es
  places around (paren e) = places around e
  places around (struct o fs opened) = places_fields (labels fs ∷ around) fs
  places around (list es end) = places_all around es ++ places_end around end
  places around (wide w) = []

  pub places_all : List (List Label) → Trees → List Place
  places_all around none = []
  places_all around (more e es) = places around e ++ places_all around es

  pub places_fields : List (List Label) → Fields → List Place
  places_fields around no_field = []
  places_fields around (field l m e fs) = key_places around m ++ places around e ++ places_fields around fs

  pub places_end : List (List Label) → End → List Place
  places_end around closed = []
  places_end around any = []
  places_end around (each e) = places around e

-- what is wrong at a place, with its offset: nothing is named, or a field is
pub data NameFault : Type 0 where
  unknown : ℕ → NameFault
  of_field : ℕ → NameFault

abbrev pub name_faults : ℕ → Bool → Bool → List NameFault
name_faults o true is_predeclared = of_field o ∷ []
name_faults o false true = []
name_faults o false false = unknown o ∷ []

abbrev pub reference_faults : ℕ → Bool → List NameFault
reference_faults o true = []
reference_faults o false = unknown o ∷ []

-- the names of the definitions are declared
abbrev pub place_faults : List (List ℕ) → Place → List NameFault
place_faults declared (a_name around t o) = name_faults o (names_field t around) (is_some (predeclared t))
place_faults declared (a_reference t o) = reference_faults o (list_any (bytes_eq t) declared)

-- all that is wrong, in order of the text
abbrev pub faults : List (List ℕ) → List Place → List NameFault
faults declared ps = flat_map (place_faults declared) ps
