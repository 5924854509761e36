-- Definitions one after another: the table of their bodies, and the list of their names.
use Rattle.std.proofs.Common.{◌≡◌, ℕ, ◌+◌, ◌<◌, Bool, true, false, ◌||◌, cond, List, [], ◌∷◌, ◌++◌, Option, Some, None, map, filter, take, length, get_or, refl, sym, ap, ap₂, ◌∙◌, subst, not, string_bytes, Vec, Global, add-one, zero, suc, arith}
use Rattle.std.proofs.Math.Seq.{take-suc}
use Rattle.std.specs.Borrow.{Bor}
use Rattle.std.specs.BTreeMap.{BTreeMap, get_by}
use Rattle.std.specs.Cmp.Lexicographic.{slice_cmp}
use Rattle.std.specs.Ordering.{nat_cmp}
use Rattle.std.specs.List.{list_any, flat_map}
use Rattle.std.specs.Map.{update}
use Rattle.std.specs.Str.{bytes_eq}
use Rattle.std.proofs.lemmas.Bool.{or_left, or_right}
use Rattle.std.proofs.lemmas.Cmp.{nat_list_eq_equiv}
use Rattle.std.proofs.lemmas.Grind.{flat_map-append}
use Rattle.std.proofs.lemmas.List.{map-append, append_assoc, append-nil}
use Rattle.std.proofs.lemmas.List.Elements.{filter-append}
use Rattle.std.proofs.lemmas.List.Folds.{list_any-append}
use Rattle.std.proofs.lemmas.Slice.Eq.{bytes_eq-Decides}
use Rattle.cs_grammar.specs.Tree.{Tree, DefinitionTree, defined_name, body, definitions}
use Rattle.cs_grammar.specs.Bodies.{bodies}
use Rattle.cs_grammar.specs.View.{expr_view, definition_view, file_view}
use Rattle.cs_grammar.specs.declared.ast.Definition.{Definition}
use Rattle.cs_grammar.specs.declared.ast.Expr.{Expr}
use Rattle.cs_grammar.specs.declared.ast.File.{File}
use Rattle.cs_embeddings.specs.Checks.{TellsEntry, TellsTable, TellsBodies, bodies_view}
use Rattle.cs_embeddings.specs.Flaws.{is_none}
use Rattle.cs_embeddings.specs.declared.definitions.Bodies.{Bodies}

or_nothing : (b : Bool) → (b || false) ≡ b
or_nothing true = refl
or_nothing false = refl

abbrev pub Table : Type 0
Table = BTreeMap (Bor (List ℕ)) (Vec (Bor Expr) Global)

abbrev pub at_name : List ℕ → Table → Option (Vec (Bor Expr) Global)
at_name s m = get_by (λ k. slice_cmp nat_cmp s k.now) m

-- ---- bodies

pub bodies_push : (t : List ℕ) (ds : List DefinitionTree) (d : DefinitionTree) → bodies t (ds ++ d ∷ []) ≡ bodies t ds ++ cond (bytes_eq (defined_name d) t) (body d ∷ []) []
bodies_push t ds d =
    ap (map body) (filter-append (λ (x : DefinitionTree). bytes_eq (defined_name x) t) ds (d ∷ []))
    ∙ map-append body (filter (λ (x : DefinitionTree). bytes_eq (defined_name x) t) ds) (filter (λ (x : DefinitionTree). bytes_eq (defined_name x) t) (d ∷ []))
    ∙ ap (λ xs. bodies t ds ++ xs) (elim (bytes_eq (defined_name d) t) as (λ b. map body (cond b (d ∷ []) []) ≡ cond b (body d ∷ []) []) [ true ↦ refl | false ↦ refl ])

from_not : (b : Bool) → not b ≡ true → b ≡ false
from_not true h = cc
from_not false h = refl

-- what a name has in the table
abbrev pub entry_items : Option (Vec (Bor Expr) Global) → List (Bor Expr)
entry_items None = []
entry_items (Some v) = v.items

entry_told : (o : Option (Vec (Bor Expr) Global)) (es : List Tree) → TellsEntry o es → bodies_view (entry_items o) ≡ es
entry_told None es h = sym h
entry_told (Some v) es h = h.0

not_none : (es : List Tree) (e : Tree) → is_none (es ++ e ∷ []) ≡ false
not_none [] e = refl
not_none (x ∷ es) e = refl

entry_more : (v : Vec (Bor Expr) Global) (es : List Tree) (old : List (Bor Expr)) (e : Bor Expr) (x : Expr) → bodies_view old ≡ es → e.now ≡ x → v.items ≡ old ++ e ∷ [] → TellsEntry (Some v) (es ++ expr_view x ∷ [])
entry_more v es old e x told is grown = (ap bodies_view grown ∙ map-append (λ (f : Bor Expr). expr_view f.now) old (e ∷ []) ∙ ap (λ xs. xs ++ expr_view e.now ∷ []) told ∙ ap (λ y. es ++ expr_view y ∷ []) is, not_none es (expr_view x))

-- the bodies of a name are taken from the table, and put back with one more
module _ (m r n : Table) (ds : List DefinitionTree) (d : Definition) (e : Bor Expr) (w v : Vec (Bor Expr) Global) (name : List ℕ) (told : TellsTable m ds) (is : e.now ≡ d.body) (same : name ≡ string_bytes d.name) where
  pub table_added : w.items ≡ entry_items (at_name name m) → v.items ≡ w.items ++ e ∷ []
      → ((t : List ℕ) → at_name t r ≡ update bytes_eq (λ s. at_name s m) name None t)
      → ((t : List ℕ) → at_name t n ≡ update bytes_eq (λ s. at_name s r) name (Some v) t)
      → TellsTable n (ds ++ definition_view d ∷ [])
  table_added taken grown without after t =
      subst (λ o. TellsEntry o (bodies t (ds ++ definition_view d ∷ []))) (sym (after t ∙ ap (λ o. cond (bytes_eq name t) (Some v) o) (without t)))
      (subst (λ bs. TellsEntry (cond (bytes_eq name t) (Some v) (cond (bytes_eq name t) None (at_name t m))) bs) (sym (bodies_push t ds (definition_view d) ∙ ap (λ s. bodies t ds ++ cond (bytes_eq s t) (expr_view d.body ∷ []) []) (sym same)))
      (by (bytes_eq name t) refl))
    where
      by : (b : Bool) → bytes_eq name t ≡ b → TellsEntry (cond b (Some v) (cond b None (at_name t m))) (bodies t ds ++ cond b (expr_view d.body ∷ []) [])
      by true h = entry_more v (bodies t ds) (entry_items (at_name t m)) e d.body (entry_told (at_name t m) (bodies t ds) (told t)) is (grown ∙ ap (λ xs. xs ++ e ∷ []) (taken ∙ ap (λ s. entry_items (at_name s m)) ((bytes_eq-Decides name t).0 h)))
      by false h = subst (λ bs. TellsEntry (at_name t m) bs) (sym (append-nil (bodies t ds))) (told t)

-- ---- names

abbrev pub has_name : List ℕ → List (Bor (List ℕ)) → Bool
has_name s names = list_any (λ (t : Bor (List ℕ)). bytes_eq s t.now) names

abbrev pub Named : List (Bor (List ℕ)) → List DefinitionTree → Type 0
Named names ds = (s : List ℕ) → has_name s names ≡ not (is_none (bodies s ds))

-- a name is added, or another is asked for
pub has_name_push : (s : List ℕ) (names : List (Bor (List ℕ))) (name : Bor (List ℕ)) → has_name s (names ++ name ∷ []) ≡ (has_name s names || bytes_eq name.now s)
has_name_push s names name = list_any-append (λ (t : Bor (List ℕ)). bytes_eq s t.now) names (name ∷ []) ∙ ap (λ b. has_name s names || b) (or_nothing (bytes_eq s name.now) ∙ nat_list_eq_equiv.symm s name.now)

-- a definition is declared with one more
declared_more : (s : List ℕ) (ds : List DefinitionTree) (d : DefinitionTree) → not (is_none (bodies s (ds ++ d ∷ []))) ≡ (not (is_none (bodies s ds)) || bytes_eq (defined_name d) s)
declared_more s ds d = ap (λ es. not (is_none es)) (bodies_push s ds d) ∙ by (bodies s ds) (bytes_eq (defined_name d) s)
  where
    by : (es : List Tree) (b : Bool) → not (is_none (es ++ cond b (body d ∷ []) [])) ≡ (not (is_none es) || b)
    by [] true = refl
    by [] false = refl
    by (e ∷ es) true = refl
    by (e ∷ es) false = refl

pub named_again : (names : List (Bor (List ℕ))) (ds : List DefinitionTree) (d : DefinitionTree) → Named names ds → is_none (bodies (defined_name d) ds) ≡ false → Named names (ds ++ d ∷ [])
named_again names ds d named there s = named s ∙ by (bytes_eq (defined_name d) s) refl ∙ sym (declared_more s ds d)
  where
    by : (b : Bool) → bytes_eq (defined_name d) s ≡ b → not (is_none (bodies s ds)) ≡ (not (is_none (bodies s ds)) || b)
    by true e = let h : is_none (bodies s ds) ≡ false = ap (λ t. is_none (bodies t ds)) (sym ((bytes_eq-Decides (defined_name d) s).0 e)) ∙ there in rw h refl
    by false e = sym (or_nothing (not (is_none (bodies s ds))))

pub named_first : (names : List (Bor (List ℕ))) (ds : List DefinitionTree) (d : DefinitionTree) (name : Bor (List ℕ)) → Named names ds → defined_name d ≡ name.now → Named (names ++ name ∷ []) (ds ++ d ∷ [])
named_first names ds d name named same s = has_name_push s names name ∙ ap₂ (λ a t. a || bytes_eq t s) (named s) (sym same) ∙ sym (declared_more s ds d)

-- a name of the list is declared
pub named_declared : (names : List (Bor (List ℕ))) (ds : List DefinitionTree) (i : ℕ) (d : Bor (List ℕ)) → Named names ds → i < length names → is_none (bodies (get_or names i d).now ds) ≡ false
named_declared names ds i d all l = from_not (is_none (bodies (get_or names i d).now ds)) (sym (all (get_or names i d).now) ∙ here names i l)
  where
    here : (xs : List (Bor (List ℕ))) (j : ℕ) → j < length xs → has_name (get_or xs j d).now xs ≡ true
    here [] j k = absurd (omega (arith, k))
    here (x ∷ xs) zero k = or_left (bytes_eq x.now x.now) (has_name x.now xs) ((bytes_eq-Decides x.now x.now).1 refl)
    here (x ∷ xs) (suc j) k = or_right (bytes_eq (get_or xs j d).now x.now) (has_name (get_or xs j d).now xs) (here xs j (omega (arith, k)))

-- a name that the table has is declared
pub declared_by : (o : Option (Vec (Bor Expr) Global)) (v : Vec (Bor Expr) Global) (es : List Tree) → TellsEntry o es → o ≡ Some v → is_none es ≡ false
declared_by None v es h e = cc
declared_by (Some w) v es h e = h.1

-- ---- definitions and files, one after another

pub take_at : {X : Type 0} (xs : List X) (i : ℕ) (x : X) → i < length xs → x ≡ get_or xs i x → take (i + 1) xs ≡ take i xs ++ x ∷ []
take_at xs i x l is = rw add-one (take-suc xs i x l ∙ ap (λ y. take i xs ++ y ∷ []) (sym is))

pub definition_more : (ds : List DefinitionTree) (xs : List Definition) (i : ℕ) (d : Definition) → i < length xs → d ≡ get_or xs i d → ds ++ map definition_view (take (i + 1) xs) ≡ (ds ++ map definition_view (take i xs)) ++ definition_view d ∷ []
definition_more ds xs i d l is =
    ap (λ ys. ds ++ map definition_view ys) (take_at xs i d l is)
    ∙ ap (λ ys. ds ++ ys) (map-append definition_view (take i xs) (d ∷ []))
    ∙ sym (append_assoc ds (map definition_view (take i xs)) (definition_view d ∷ []))

pub definitions_more : (fs : List File) (i : ℕ) (f : File) → i < length fs → f ≡ get_or fs i f → flat_map definitions (map file_view (take (i + 1) fs)) ≡ flat_map definitions (map file_view (take i fs)) ++ map definition_view f.definitions.items
definitions_more fs i f l is =
    ap (λ gs. flat_map definitions (map file_view gs)) (take_at fs i f l is)
    ∙ ap (flat_map definitions) (map-append file_view (take i fs) (f ∷ []))
    ∙ flat_map-append definitions (map file_view (take i fs)) (file_view f ∷ [])
    ∙ ap (λ ds. flat_map definitions (map file_view (take i fs)) ++ ds) (append-nil (map definition_view f.definitions.items))

-- none yet
pub none_told : (b : Bodies) → b.by_name.entries ≡ [] → b.names.items ≡ [] → b.none.items ≡ [] → TellsBodies b []
none_told b empty bare none = record {
  table = λ s. subst (λ o. TellsEntry o []) (sym (empty_at s)) refl;
  none = none;
  named = λ s. ap (has_name s) bare;
}
  where
    empty_at : (s : List ℕ) → at_name s b.by_name ≡ None
    empty_at s = rw empty refl
