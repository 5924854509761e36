-- Definitions one after another: their bodies, and their names.
use Rattle.std.proofs.Common.{◌≡◌, ℕ, ◌+◌, ◌<◌, Bool, true, false, ◌||◌, ◌&&◌, cond, List, [], ◌∷◌, ◌++◌, Option, Some, None, is_some, map, filter, take, length, get_or, refl, sym, ap, ◌∙◌, subst, string_bytes, arith}
use Rattle.std.specs.Borrow.{Bor}
use Rattle.std.specs.BTreeMap.{BTreeMap, get_by, is_at}
use Rattle.std.specs.BTreeSet.{BTreeSet}
use Rattle.std.specs.Cmp.Lexicographic.{slice_cmp}
use Rattle.std.specs.Ordering.{nat_cmp}
use Rattle.std.specs.List.{list_any, flat_map}
use Rattle.std.specs.Map.{update}
use Rattle.std.specs.Str.{bytes_eq}
use Rattle.std.proofs.lemmas.Grind.{flat_map-append}
use Rattle.std.proofs.lemmas.List.{map-append, append_assoc, append-nil, length-append}
use Rattle.std.proofs.lemmas.List.Elements.{filter-append}
use Rattle.std.proofs.lemmas.List.Folds.{list_any-append}
use Rattle.std.proofs.lemmas.Slice.Eq.{bytes_eq-Decides}
use Rattle.cs_grammar.specs.Tree.{Tree, DefinitionTree, defined_name, body, definitions}
use Rattle.cs_grammar.specs.Bodies.{bodies}
use Rattle.cs_grammar.specs.View.{expr_view, definition_view, file_view}
use Rattle.cs_grammar.specs.declared.ast.Definition.{Definition}
use Rattle.cs_grammar.specs.declared.ast.Expr.{Expr}
use Rattle.cs_grammar.specs.declared.ast.File.{File}
use Rattle.cs_defaults.specs.Checks.{TellsBody, TellsBodies, TellsHandingOf, is_declared}
use Rattle.cs_defaults.specs.Leading.{hands_on, leads, leading_of}
use Rattle.cs_defaults.proofs.AbsentLabels.{take_at}
use Rattle.cs_defaults.proofs.TextSets.{Puts, has_text_put, or_nothing, and_false}

-- ---- bodies

-- what the table says of a name that gets one body more
abbrev pub put : Option (Option (Bor Expr)) → Bor Expr → Option (Bor Expr)
put None e = Some e
put (Some before) e = None

two : (bs : List Tree) (e : Tree) → 0 < length bs → 1 < length (bs ++ e ∷ [])
two bs e h = let long = length-append bs (e ∷ []) in omega (arith, long, h)

body_put : (o : Option (Option (Bor Expr))) (bs : List Tree) (e : Bor Expr) → TellsBody o bs → TellsBody (Some (put o e)) (bs ++ expr_view e.now ∷ [])
body_put None bs e h = ap (λ cs. cs ++ expr_view e.now ∷ []) h
body_put (Some (Some f)) bs e h = let one = ap length h in two bs (expr_view e.now) (omega (arith, one))
body_put (Some None) bs e h = two bs (expr_view e.now) (omega (arith, h))

bodies_push : (t : List ℕ) (ds : List DefinitionTree) (d : Definition) → bodies t (ds ++ definition_view d ∷ []) ≡ bodies t ds ++ cond (bytes_eq (string_bytes d.name) t) (expr_view d.body ∷ []) []
bodies_push t ds d =
    ap (map body) (filter-append (λ (x : DefinitionTree). bytes_eq (defined_name x) t) ds (definition_view d ∷ []))
    ∙ map-append body (filter (λ (x : DefinitionTree). bytes_eq (defined_name x) t) ds) (filter (λ (x : DefinitionTree). bytes_eq (defined_name x) t) (definition_view d ∷ []))
    ∙ ap (λ xs. bodies t ds ++ xs) (elim (bytes_eq (string_bytes d.name) t) as (λ b. map body (cond b (definition_view d ∷ []) []) ≡ cond b (expr_view d.body ∷ []) []) [ true ↦ refl | false ↦ refl ])

-- a definition's body is put into the table
pub body_added : (m n : BTreeMap (Bor (List ℕ)) (Option (Bor Expr))) (ds : List DefinitionTree) (d : Definition) (e : Bor Expr) (v : Option (Bor Expr)) (name : List ℕ) → TellsBodies m ds → e.now ≡ d.body → name ≡ string_bytes d.name
    → v ≡ put (get_by (λ k. slice_cmp nat_cmp name k.now) m) e
    → ((t : List ℕ) → get_by (λ k. slice_cmp nat_cmp t k.now) n ≡ update bytes_eq (λ ns. get_by (λ k. slice_cmp nat_cmp ns k.now) m) name (Some v) t)
    → TellsBodies n (ds ++ definition_view d ∷ [])
body_added m n ds d e v name told is same picked after t =
    subst (λ o. TellsBody o (bodies t (ds ++ definition_view d ∷ []))) (sym (after t))
    (subst (λ bs. TellsBody (cond (bytes_eq name t) (Some v) (get_by (λ k. slice_cmp nat_cmp t k.now) m)) bs) (sym (bodies_push t ds d ∙ ap (λ s. bodies t ds ++ cond (bytes_eq s t) (expr_view d.body ∷ []) []) (sym same)))
    (by (bytes_eq name t) refl))
  where
    by : (b : Bool) → bytes_eq name t ≡ b → TellsBody (cond b (Some v) (get_by (λ k. slice_cmp nat_cmp t k.now) m)) (bodies t ds ++ cond b (expr_view d.body ∷ []) [])
    by true h = subst (λ x. TellsBody (Some v) (bodies t ds ++ expr_view x ∷ [])) is (subst (λ x. TellsBody (Some x) (bodies t ds ++ expr_view e.now ∷ [])) (sym (picked ∙ ap (λ s. put (get_by (λ k. slice_cmp nat_cmp s k.now) m) e) ((bytes_eq-Decides name t).0 h))) (body_put (get_by (λ k. slice_cmp nat_cmp t k.now) m) (bodies t ds) e (told t)))
    by false h = subst (λ bs. TellsBody (get_by (λ k. slice_cmp nat_cmp t k.now) m) bs) (sym (append-nil (bodies t ds))) (told t)

pub put_first : (o : Option (Option (Bor Expr))) (e : Bor Expr) → is_some o ≡ false → Some e ≡ put o e
put_first None e h = refl
put_first (Some x) e h = cc

pub put_again : (o : Option (Option (Bor Expr))) (e : Bor Expr) → is_some o ≡ true → None ≡ put o e
put_again None e h = cc
put_again (Some x) e h = refl

-- ---- names that hand on a default

declared_push : (s : List ℕ) (ds : List DefinitionTree) (d : DefinitionTree) → is_declared (ds ++ d ∷ []) s ≡ (is_declared ds s || bytes_eq (defined_name d) s)
declared_push s ds d = list_any-append (λ (x : DefinitionTree). bytes_eq (defined_name x) s) ds (d ∷ []) ∙ ap (λ b. is_declared ds s || b) (or_nothing (bytes_eq (defined_name d) s))

pub none_told : (names : BTreeSet (Bor (List ℕ))) (has : List ℕ → Bool) → names.keys ≡ [] → TellsHandingOf names has []
none_told names has empty s = ap (λ ks. list_any (is_at (λ (k : Bor (List ℕ)). slice_cmp nat_cmp s k.now)) ks) empty ∙ sym (and_false (has s))

module _ (names : BTreeSet (Bor (List ℕ))) (has : List ℕ → Bool) (ds : List DefinitionTree) (d : DefinitionTree) (told : TellsHandingOf names has ds) where
  pub name_added : (after : BTreeSet (Bor (List ℕ))) (k : Bor (List ℕ)) → defined_name d ≡ k.now → has k.now ≡ true → Puts names after k → TellsHandingOf after has (ds ++ d ∷ [])
  name_added after k same hands puts s =
      has_text_put s names after k puts
      ∙ ap (λ b. b || bytes_eq k.now s) (told s)
      ∙ by (bytes_eq k.now s) refl (has s) refl (is_declared ds s)
      ∙ sym (ap (λ b. has s && b) (declared_push s ds d ∙ ap (λ t. is_declared ds s || bytes_eq t s) same))
    where
      by : (b : Bool) → bytes_eq k.now s ≡ b → (h : Bool) → has s ≡ h → (a : Bool) → ((h && a) || b) ≡ (h && (a || b))
      by true e true f true = refl
      by true e true f false = refl
      by true e false f a = absurd (let g : true ≡ false = sym hands ∙ ap has ((bytes_eq-Decides k.now s).0 e) ∙ f in cc)
      by false e true f true = refl
      by false e true f false = refl
      by false e false f a = refl

  pub name_left_out : (name : List ℕ) → defined_name d ≡ name → has name ≡ false → TellsHandingOf names has (ds ++ d ∷ [])
  name_left_out name same hands s =
      told s
      ∙ by (bytes_eq name s) refl (has s) refl (is_declared ds s)
      ∙ sym (ap (λ b. has s && b) (declared_push s ds d ∙ ap (λ t. is_declared ds s || bytes_eq t s) same))
    where
      by : (b : Bool) → bytes_eq name s ≡ b → (h : Bool) → has s ≡ h → (a : Bool) → (h && a) ≡ (h && (a || b))
      by true e true f a = absurd (let g : false ≡ true = sym hands ∙ ap has ((bytes_eq-Decides name s).0 e) ∙ f in cc)
      by true e false f a = refl
      by false e true f a = sym (or_nothing a)
      by false e false f a = refl

-- a name that isn't declared has no body
no_bodies : (ds : List DefinitionTree) (s : List ℕ) → is_declared ds s ≡ false → bodies s ds ≡ []
no_bodies [] s h = refl
no_bodies (d ∷ ds) s h = by (bytes_eq (defined_name d) s) h (no_bodies ds s)
  where
    by : (b : Bool) → (b || is_declared ds s) ≡ false → (is_declared ds s ≡ false → bodies s ds ≡ []) → map body (cond b (d ∷ filter (λ (x : DefinitionTree). bytes_eq (defined_name x) s) ds) (filter (λ (x : DefinitionTree). bytes_eq (defined_name x) s) ds)) ≡ []
    by true e later = cc
    by false e later = later e

-- so it hands nothing on
pub only_declared : (ds : List DefinitionTree) (s : List ℕ) → (hands_on ds s && is_declared ds s) ≡ hands_on ds s
only_declared ds s = by (is_declared ds s) refl (hands_on ds s) refl
  where
    by : (a : Bool) → is_declared ds s ≡ a → (h : Bool) → hands_on ds s ≡ h → (h && a) ≡ h
    by true e true f = refl
    by true e false f = refl
    by false e true f = absurd (let g : false ≡ true = sym (ap (λ bs. leads ds 64 (leading_of bs)) (no_bodies ds s e)) ∙ f in cc)
    by false e false f = refl

-- ---- definitions and files, one after another

pub definition_more : (ds : List DefinitionTree) (xs : List Definition) (i : ℕ) (d : Definition) → i < length xs → d ≡ get_or xs i d → ds ++ map definition_view (take (i + 1) xs) ≡ (ds ++ map definition_view (take i xs)) ++ definition_view d ∷ []
definition_more ds xs i d l is =
    ap (λ ys. ds ++ map definition_view ys) (take_at xs i d l is)
    ∙ ap (λ ys. ds ++ ys) (map-append definition_view (take i xs) (d ∷ []))
    ∙ sym (append_assoc ds (map definition_view (take i xs)) (definition_view d ∷ []))

pub definitions_more : (fs : List File) (i : ℕ) (f : File) → i < length fs → f ≡ get_or fs i f → flat_map definitions (map file_view (take (i + 1) fs)) ≡ flat_map definitions (map file_view (take i fs)) ++ map definition_view f.definitions.items
definitions_more fs i f l is =
    ap (λ gs. flat_map definitions (map file_view gs)) (take_at fs i f l is)
    ∙ ap (flat_map definitions) (map-append file_view (take i fs) (f ∷ []))
    ∙ flat_map-append definitions (map file_view (take i fs)) (file_view f ∷ [])
    ∙ ap (λ ds. flat_map definitions (map file_view (take i fs)) ++ ds) (append-nil (map definition_view f.definitions.items))
