-- A name is at fault in files without their offsets where it is in the files.
use Rattle.std.proofs.Common.{◌≡◌, ℕ, suc, Bool, true, false, ◌↔◌, List, [], ◌∷◌, ◌++◌, map, is_some, refl, sym, ap, ◌∙◌}
use Rattle.std.specs.List.{flat_map, list_any}
use Rattle.std.specs.Str.{bytes_eq}
use Rattle.std.proofs.lemmas.Grind.{flat_map-append}
use Rattle.cs_grammar.specs.declared.ast.FieldMark.{FieldMark}
use Rattle.cs_grammar.specs.declared.ast.FieldMark.TheVariants.{Regular, Optional, Required, Every}
use Rattle.cs_grammar.specs.Tree.{Label, Tree, atom, named, reference, conjunction, disjunction, paren, struct, list, wide, Trees, none, more, Fields, no_field, field, End, closed, any, each, DefinitionTree, definition, body, FileTree, definitions}
use Rattle.cs_print.specs.Printed.{unplaced_mark, unplaced, unplaced_all, unplaced_fields, unplaced_end, unplaced_definition}
use Rattle.cs_resolve.specs.Declarations.{places_of, names, faults_from, faults_of_files}
use Rattle.cs_resolve.specs.Predeclared.{predeclared}
use Rattle.cs_resolve.specs.Scopes.{labels, names_field, Place, a_name, a_reference, key_places, places, places_all, places_fields, places_end, NameFault, unknown, of_field, name_faults, reference_faults, place_faults, faults}
use Rattle.cs_resolve.proofs.Refusals.{nil_left, nil_right}
use Rattle.cs_widen.proofs.UnplacedTrees.{behind, same_labels}

-- ---- files, and their definitions

abbrev numbered : ℕ → List NameFault → List (ℕ × NameFault)
numbered i xs = map (λ x. (i, x)) xs

numbered_none : (i : ℕ) (xs : List NameFault) → numbered i xs ≡ [] → xs ≡ []
numbered_none i [] h = refl
numbered_none i (x ∷ xs) h = cc

-- the faults of definitions
abbrev pub faults_in : List (List ℕ) → List DefinitionTree → List NameFault
faults_in ns ds = faults ns (places_of ds)

faults-append : (ns : List (List ℕ)) (ds es : List DefinitionTree) → faults_in ns (ds ++ es) ≡ faults_in ns ds ++ faults_in ns es
faults-append ns ds es =
    ap (faults ns) (flat_map-append (λ d. places [] (body d)) ds es) ∙ flat_map-append (place_faults ns) (places_of ds) (places_of es)

files_none : (ns : List (List ℕ)) (i : ℕ) (fs : List FileTree) → faults_from i ns fs ≡ [] → faults_in ns (flat_map definitions fs) ≡ []
files_none ns i [] h = refl
files_none ns i (f ∷ fs) h =
    let here = faults_in ns (definitions f) in
    faults-append ns (definitions f) (flat_map definitions fs)
    ∙ ap (λ xs. xs ++ faults_in ns (flat_map definitions fs)) (numbered_none i here (nil_left (numbered i here) (faults_from (suc i) ns fs) h))
    ∙ files_none ns (suc i) fs (nil_right (numbered i here) (faults_from (suc i) ns fs) h)

none_files : (ns : List (List ℕ)) (i : ℕ) (fs : List FileTree) → faults_in ns (flat_map definitions fs) ≡ [] → faults_from i ns fs ≡ []
none_files ns i [] h = refl
none_files ns i (f ∷ fs) h =
    let here = faults_in ns (definitions f) in
    let both = sym (faults-append ns (definitions f) (flat_map definitions fs)) ∙ h in
    ap (λ xs. numbered i xs ++ faults_from (suc i) ns fs) (nil_left here (faults_in ns (flat_map definitions fs)) both)
    ∙ none_files ns (suc i) fs (nil_right here (faults_in ns (flat_map definitions fs)) both)

-- no name of files is at fault where none of their definitions is
pub no_faults : (fs : List FileTree) → (faults_of_files fs ≡ []) ↔ (faults_in (names (flat_map definitions fs)) (flat_map definitions fs) ≡ [])
no_faults fs = (files_none (names (flat_map definitions fs)) 0 fs, none_files (names (flat_map definitions fs)) 0 fs)

-- ---- places and faults without offsets

abbrev unplaced_place : Place → Place
unplaced_place (a_name around t o) = a_name around t 0
unplaced_place (a_reference t o) = a_reference t 0

abbrev unplaced_fault : NameFault → NameFault
unplaced_fault (unknown o) = unknown 0
unplaced_fault (of_field o) = of_field 0

abbrev unplaced_places : List Place → List Place
unplaced_places ps = map unplaced_place ps

abbrev unplaced_faults : List NameFault → List NameFault
unplaced_faults xs = map unplaced_fault xs

-- places one behind the other
next : {ps qs : List Place} (xs ys : List Place) → ps ≡ unplaced_places xs → qs ≡ unplaced_places ys → ps ++ qs ≡ unplaced_places (xs ++ ys)
next xs ys p q = behind unplaced_place xs ys p q

same_keys : (around : List (List Label)) (m : FieldMark) → key_places around (unplaced_mark m) ≡ unplaced_places (key_places around m)
same_keys around Regular = refl
same_keys around Optional = refl
same_keys around Required = refl
same_keys around (Every o) = refl

mutual
  same_places : (around : List (List Label)) (e : Tree) → places around (unplaced e) ≡ unplaced_places (places around e)
  same_places around (atom a) = refl
  same_places around (named s o) = refl
  same_places around (reference s o) = refl
  same_places around (conjunction es) = same_places_all around es
  same_places around (disjunction es) = same_places_all around es
  same_places around (paren e) = same_places around e
  same_places around (struct o fs b) = ap (λ ls. places_fields (ls ∷ around) (unplaced_fields fs)) (same_labels fs) ∙ same_places_fields (labels fs ∷ around) fs
  same_places around (list es end) = next (places_all around es) (places_end around end) (same_places_all around es) (same_places_end around end)
  same_places around (wide w) = refl

  same_places_all : (around : List (List Label)) (es : Trees) → places_all around (unplaced_all es) ≡ unplaced_places (places_all around es)
  same_places_all around none = refl
  same_places_all around (more e es) = next (places around e) (places_all around es) (same_places around e) (same_places_all around es)

  same_places_fields : (around : List (List Label)) (fs : Fields) → places_fields around (unplaced_fields fs) ≡ unplaced_places (places_fields around fs)
  same_places_fields around no_field = refl
  same_places_fields around (field l m e fs) =
      let first = next (key_places around m) (places around e) (same_keys around m) (same_places around e) in
      next (key_places around m ++ places around e) (places_fields around fs) first (same_places_fields around fs)

  same_places_end : (around : List (List Label)) (end : End) → places_end around (unplaced_end end) ≡ unplaced_places (places_end around end)
  same_places_end around closed = refl
  same_places_end around any = refl
  same_places_end around (each e) = same_places around e

same_places_of : (ds : List DefinitionTree) → places_of (map unplaced_definition ds) ≡ unplaced_places (places_of ds)
same_places_of [] = refl
same_places_of (definition s o e ∷ ds) = next (places [] e) (places_of ds) (same_places [] e) (same_places_of ds)

same_place : (ns : List (List ℕ)) (p : Place) → place_faults ns (unplaced_place p) ≡ unplaced_faults (place_faults ns p)
same_place ns (a_name around t o) = by (names_field t around) (is_some (predeclared t))
  where
    by : (a b : Bool) → name_faults 0 a b ≡ unplaced_faults (name_faults o a b)
    by true b = refl
    by false true = refl
    by false false = refl
same_place ns (a_reference t o) = by (list_any (bytes_eq t) ns)
  where
    by : (a : Bool) → reference_faults 0 a ≡ unplaced_faults (reference_faults o a)
    by true = refl
    by false = refl

same_faults : (ns : List (List ℕ)) (ps : List Place) → faults ns (unplaced_places ps) ≡ unplaced_faults (faults ns ps)
same_faults ns [] = refl
same_faults ns (p ∷ ps) = behind unplaced_fault (place_faults ns p) (faults ns ps) (same_place ns p) (same_faults ns ps)

unplaced_none : (xs : List NameFault) → unplaced_faults xs ≡ [] → xs ≡ []
unplaced_none [] h = refl
unplaced_none (x ∷ xs) h = cc

same_faults_in : (ns : List (List ℕ)) (ds : List DefinitionTree) → faults_in ns (map unplaced_definition ds) ≡ unplaced_faults (faults_in ns ds)
same_faults_in ns ds = ap (faults ns) (same_places_of ds) ∙ same_faults ns (places_of ds)

-- where the definitions declare these names
pub same_resolved : (ns : List (List ℕ)) (ds : List DefinitionTree) → (faults_in ns (map unplaced_definition ds) ≡ []) ↔ (faults_in ns ds ≡ [])
same_resolved ns ds = (λ h. unplaced_none (faults_in ns ds) (sym (same_faults_in ns ds) ∙ h), λ h. same_faults_in ns ds ∙ ap unplaced_faults h)
