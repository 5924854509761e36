-- Expressions and their trees, level by level.
use Rattle.std.proofs.Common.{◌≡◌, ℕ, ◌+◌, ◌<◌, List, [], ◌∷◌, ◌++◌, map, length, take, get_or, string_bytes, refl, sym, ap, ◌∙◌, subst, arith}
use Rattle.std.proofs.lemmas.List.{take_more}
use Rattle.cs_grammar.specs.declared.ast.Definition.{Definition}
use Rattle.cs_grammar.specs.declared.ast.File.{File}
use Rattle.std.specs.List.{AllByRecursion, flat_map}
use Rattle.std.proofs.lemmas.List.Elements.{All-from_recursion}
use Rattle.std.proofs.lemmas.List.{map-append, append_assoc, append-nil, get_or-map, length-map}
use Rattle.std.proofs.lemmas.Grind.{flat_map-append}
use Rattle.cs_resolve.specs.Opening.{one, Named, named_fields, named_bodies, operands}
use Rattle.cs_resolve.specs.Checks.{named_by}
use Rattle.cs_grammar.specs.Tree as T
use Rattle.cs_grammar.specs.View.{trees_of, definition_view, file_view, expr_view, fields_view}
use Rattle.cs_grammar.specs.declared.ast.Field.{Field}
pub use Rattle.cs_grammar.proofs.Views.{view-Name, view-Reference, view-And, view-Or, view-Paren, view-Struct, view-List, view-Each, view-value, view-label, view-mark, view-text}

pub take_at : {X : Type 0} (xs : List X) (i : ℕ) (x : X) → i < length xs → x ≡ get_or xs i x → take (i + 1) xs ≡ take i xs ++ x ∷ []
take_at xs i x l is = take_more xs i x l ∙ ap (λ y. take i xs ++ y ∷ []) (sym is)

-- the values of a literal, under their labels, and one more
named_push : (xs : List Field) (x : Field) → named_fields (fields_view (xs ++ x ∷ [])) ≡ named_fields (fields_view xs) ++ named_by x ∷ []
named_push [] x = refl
named_push (y ∷ xs) x = ap (λ ns. named_by y ∷ ns) (named_push xs x)

pub named_more : (xs : List Field) (i : ℕ) (x : Field) → i < length xs → x ≡ get_or xs i x → named_fields (fields_view (take (i + 1) xs)) ≡ named_fields (fields_view (take i xs)) ++ named_by x ∷ []
named_more xs i x l is = ap (λ ys. named_fields (fields_view ys)) (take_at xs i x l is) ∙ named_push (take i xs) x

pub operands_of : (ts : List T.Tree) → operands (trees_of ts) ≡ ts
operands_of [] = refl
operands_of (t ∷ ts) = ap (λ r. t ∷ r) (operands_of ts)

-- ---- definitions and files

-- the bodies of definitions, under their names, and one more
pub bodies_more : (ns : List Named) (ds : List Definition) (i : ℕ) (d : Definition) → i < length ds → d ≡ get_or ds i d → (t : List ℕ) → t ≡ string_bytes d.name → ns ++ named_bodies (map definition_view (take (i + 1) ds)) ≡ (ns ++ named_bodies (map definition_view (take i ds))) ++ record { name = one t; value = expr_view d.body } ∷ []
bodies_more ns ds i d l is t same =
    ap (λ es. ns ++ named_bodies (map definition_view es)) (take_at ds i d l is)
    ∙ ap (λ es. ns ++ named_bodies es) (map-append definition_view (take i ds) (d ∷ []))
    ∙ ap (λ ms. ns ++ ms) (map-append (λ (e : T.DefinitionTree). record { name = one (T.defined_name e); value = T.body e }) (map definition_view (take i ds)) (definition_view d ∷ []))
    ∙ sym (append_assoc ns (named_bodies (map definition_view (take i ds))) (record { name = one (string_bytes d.name); value = expr_view d.body } ∷ []))
    ∙ ap (λ s. (ns ++ named_bodies (map definition_view (take i ds))) ++ record { name = one s; value = expr_view d.body } ∷ []) (sym same)

-- the definitions of files, and of one more
pub definitions_more : (fs : List File) (i : ℕ) (f : File) → i < length fs → f ≡ get_or fs i f → flat_map T.definitions (map file_view (take (i + 1) fs)) ≡ flat_map T.definitions (map file_view (take i fs)) ++ map definition_view f.definitions.items
definitions_more fs i f l is =
    ap (λ gs. flat_map T.definitions (map file_view gs)) (take_at fs i f l is)
    ∙ ap (flat_map T.definitions) (map-append file_view (take i fs) (f ∷ []))
    ∙ flat_map-append T.definitions (map file_view (take i fs)) (file_view f ∷ [])
    ∙ ap (λ ds. flat_map T.definitions (map file_view (take i fs)) ++ ds) (append-nil (map definition_view f.definitions.items))

-- the bodies of files, and of one more
pub files_more : (fs : List File) (i : ℕ) (f : File) → i < length fs → f ≡ get_or fs i f → named_bodies (flat_map T.definitions (map file_view (take (i + 1) fs))) ≡ named_bodies (flat_map T.definitions (map file_view (take i fs))) ++ named_bodies (map definition_view f.definitions.items)
files_more fs i f l is =
    ap named_bodies (definitions_more fs i f l is)
    ∙ map-append (λ (e : T.DefinitionTree). record { name = one (T.defined_name e); value = T.body e }) (flat_map T.definitions (map file_view (take i fs))) (map definition_view f.definitions.items)

-- what f gives for the first of a list, and for one more
pub map_more : {X Y : Type 0} (f : X → Y) (xs : List X) (i : ℕ) (x : X) → i < length xs → x ≡ get_or xs i x → map f (take (i + 1) xs) ≡ map f (take i xs) ++ f x ∷ []
map_more f xs i x l is = ap (map f) (take_at xs i x l is) ∙ map-append f (take i xs) (x ∷ [])

-- what holds of all that f gives holds of what it gives at a place
pub mapped_at : {X Y : Type 0} (P : Y → Type 0) (f : X → Y) (xs : List X) (i : ℕ) (x : X) → i < length xs → x ≡ get_or xs i x → AllByRecursion P (map f xs) → P (f x)
mapped_at P f xs i x l is h =
    let there = length-map xs f in
    subst P (get_or-map f xs i x (f x) l ∙ ap f (sym is)) (All-from_recursion P (map f xs) h i (f x) (omega arith))
