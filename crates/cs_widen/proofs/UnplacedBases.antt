-- Definitions without their offsets have the same closed bases, and their plain refinements are those of the definitions.
use Rattle.std.proofs.Common.{◌≡◌, ℕ, zero, suc, Bool, true, false, ◌&&◌, ◌||◌, not, cond, if◌then◌else◌, List, [], ◌∷◌, map, filter, length, Option, Some, None, refl, ap, ap₂, ◌∙◌}
use Rattle.std.specs.List.{list_any}
use Rattle.std.specs.Str.{bytes_eq}
use Rattle.std.proofs.Math.Path.{fun_ext}
use Rattle.std.proofs.lemmas.List.{length-map}
use Rattle.cs_grammar.specs.declared.ast.FieldMark.{FieldMark}
use Rattle.cs_grammar.specs.declared.ast.FieldMark.TheVariants.{Regular, Optional, Required, Every}
use Rattle.cs_grammar.specs.Tree.{Tree, atom, named, reference, conjunction, disjunction, paren, struct, list, wide, Trees, none, more, Fields, no_field, field, DefinitionTree, definition, defined_name, body}
use Rattle.cs_print.specs.Printed.{unplaced_mark, unplaced, unplaced_all, unplaced_fields, unplaced_definition}
use Rattle.cs_resolve.specs.ClosedBases.{Bases, narrowed_labels, narrowed, labels_or, base_of, bases_within, bases, is_some_labels, is_refinement}
use Rattle.cs_resolve.specs.Declarations.{bodies_of}
use Rattle.cs_resolve.specs.Refinement.{is_every, has_every_key, closed_literal, referred, Narrowing, narrowing_of, or_else, narrowing, narrowing_in, texts, narrows}
use Rattle.cs_widen.proofs.UnplacedTrees.{same_plain, same_labels}

-- ---- closed literals

same_mark : (m : FieldMark) → is_every (unplaced_mark m) ≡ is_every m
same_mark Regular = refl
same_mark Optional = refl
same_mark Required = refl
same_mark (Every o) = refl

same_every_key : (fs : Fields) → has_every_key (unplaced_fields fs) ≡ has_every_key fs
same_every_key no_field = refl
same_every_key (field l m e fs) = ap₂ (λ a b. a || b) (same_mark m) (same_every_key fs)

abbrev unplaced_literal : Option Fields → Option Fields
unplaced_literal None = None
unplaced_literal (Some fs) = Some (unplaced_fields fs)

same_literal : (e : Tree) → closed_literal (unplaced e) ≡ unplaced_literal (closed_literal e)
same_literal (atom a) = refl
same_literal (named s o) = refl
same_literal (reference s o) = refl
same_literal (conjunction es) = refl
same_literal (disjunction es) = refl
same_literal (paren e) = same_literal e
same_literal (struct o fs b) = ap (λ k. cond (b || k) None (Some (unplaced_fields fs))) (same_every_key fs) ∙ by (b || has_every_key fs)
  where
    by : (c : Bool) → cond c None (Some (unplaced_fields fs)) ≡ unplaced_literal (cond c None (Some fs))
    by true = refl
    by false = refl
same_literal (list es end) = refl
same_literal (wide w) = refl

-- ---- what is narrowed, and by which fields

same_referred : (e : Tree) → referred (unplaced e) ≡ referred e
same_referred (atom a) = refl
same_referred (named s o) = refl
same_referred (reference s o) = refl
same_referred (conjunction es) = refl
same_referred (disjunction es) = refl
same_referred (paren e) = same_referred e
same_referred (struct o fs b) = refl
same_referred (list es end) = refl
same_referred (wide w) = refl

abbrev unplaced_narrowing : Option Narrowing → Option Narrowing
unplaced_narrowing None = None
unplaced_narrowing (Some (n, fs)) = Some (n, unplaced_fields fs)

same_pair : (n : Option (List ℕ)) (fs : Option Fields) → narrowing_of n (unplaced_literal fs) ≡ unplaced_narrowing (narrowing_of n fs)
same_pair None fs = refl
same_pair (Some n) None = refl
same_pair (Some n) (Some fs) = refl

same_either : (a b : Option Narrowing) → or_else (unplaced_narrowing a) (unplaced_narrowing b) ≡ unplaced_narrowing (or_else a b)
same_either None b = refl
same_either (Some (n, fs)) b = refl

-- a reference and a literal
same_two : (a b : Tree) → narrowing_of (referred (unplaced a)) (closed_literal (unplaced b)) ≡ unplaced_narrowing (narrowing_of (referred a) (closed_literal b))
same_two a b = ap₂ narrowing_of (same_referred a) (same_literal b) ∙ same_pair (referred a) (closed_literal b)

same_narrowing : (es : Trees) → narrowing (unplaced_all es) ≡ unplaced_narrowing (narrowing es)
same_narrowing none = refl
same_narrowing (more a none) = refl
same_narrowing (more a (more b none)) =
    ap₂ or_else (same_two a b) (same_two b a) ∙ same_either (narrowing_of (referred a) (closed_literal b)) (narrowing_of (referred b) (closed_literal a))
same_narrowing (more a (more b (more c es))) = refl

same_narrowing_in : (e : Tree) → narrowing_in (unplaced e) ≡ unplaced_narrowing (narrowing_in e)
same_narrowing_in (atom a) = refl
same_narrowing_in (named s o) = refl
same_narrowing_in (reference s o) = refl
same_narrowing_in (conjunction es) = same_narrowing es
same_narrowing_in (disjunction es) = refl
same_narrowing_in (paren e) = same_narrowing_in e
same_narrowing_in (struct o fs b) = refl
same_narrowing_in (list es end) = refl
same_narrowing_in (wide w) = refl

-- ---- bases

same_narrows : (fs : Fields) (ls : List (List ℕ)) → narrows (unplaced_fields fs) ls ≡ narrows fs ls
same_narrows no_field ls = refl
same_narrows (field l m e fs) ls = ap₂ (λ a b. list_any (bytes_eq l.text) ls && not a && b) (same_plain e) (same_narrows fs ls)

same_texts : (fs : Fields) → texts (unplaced_fields fs) ≡ texts fs
same_texts fs = ap (map (λ l. l.text)) (same_labels fs)

same_narrowed_labels : (o : Option (List (List ℕ))) (fs : Fields) → narrowed_labels o (unplaced_fields fs) ≡ narrowed_labels o fs
same_narrowed_labels None fs = refl
same_narrowed_labels (Some ls) fs = ap (λ b. if b then Some ls else None) (same_narrows fs ls)

same_narrowed : (bs : Bases) (n : Option Narrowing) → narrowed bs (unplaced_narrowing n) ≡ narrowed bs n
same_narrowed bs None = refl
same_narrowed bs (Some (m, fs)) = same_narrowed_labels (bs m) fs

same_labels_or : (l : Option Fields) (o : Option (List (List ℕ))) → labels_or (unplaced_literal l) o ≡ labels_or l o
same_labels_or None o = refl
same_labels_or (Some fs) o = ap Some (same_texts fs)

same_base : (bs : Bases) (es : List Tree) → base_of bs (map unplaced es) ≡ base_of bs es
same_base bs [] = refl
same_base bs (e ∷ []) =
    ap₂ labels_or (same_literal e) (ap (narrowed bs) (same_narrowing_in e) ∙ same_narrowed bs (narrowing_in e))
    ∙ same_labels_or (closed_literal e) (narrowed bs (narrowing_in e))
same_base bs (e ∷ f ∷ es) = refl

-- ---- definitions

-- the first of the bodies, if it is one, and the others
first_too : (b : Bool) (d : DefinitionTree) (ds es : List DefinitionTree) → map body es ≡ map unplaced (map body ds)
    → map body (cond b (unplaced_definition d ∷ es) es) ≡ map unplaced (map body (cond b (d ∷ ds) ds))
first_too true (definition s o e) ds es rest = ap (λ bodies. unplaced e ∷ bodies) rest
first_too false d ds es rest = rest

abbrev of_name : List ℕ → List DefinitionTree → List DefinitionTree
of_name n ds = filter (λ d. bytes_eq (defined_name d) n) ds

pub same_bodies : (n : List ℕ) (ds : List DefinitionTree) → bodies_of n (map unplaced_definition ds) ≡ map unplaced (bodies_of n ds)
same_bodies n [] = refl
same_bodies n (definition s o e ∷ ds) =
    first_too (bytes_eq s n) (definition s o e) (of_name n ds) (of_name n (map unplaced_definition ds)) (same_bodies n ds)

same_within : (k : ℕ) (ds : List DefinitionTree) → bases_within k (map unplaced_definition ds) ≡ bases_within k ds
same_within zero ds = refl
same_within (suc k) ds = fun_ext (λ n. ap₂ base_of (same_within k ds) (same_bodies n ds) ∙ same_base (bases_within k ds) (bodies_of n ds))

same_bases : (ds : List DefinitionTree) → bases (map unplaced_definition ds) ≡ bases ds
same_bases ds = ap (λ k. bases_within k (map unplaced_definition ds)) (length-map ds unplaced_definition) ∙ same_within (length ds) ds

pub same_refinements : (ds : List DefinitionTree) (es : Trees)
    → is_refinement (bases (map unplaced_definition ds)) (unplaced_all es) ≡ is_refinement (bases ds) es
same_refinements ds es =
    ap₂ (λ bs n. is_some_labels (narrowed bs n)) (same_bases ds) (same_narrowing es) ∙ ap is_some_labels (same_narrowed (bases ds) (narrowing es))
