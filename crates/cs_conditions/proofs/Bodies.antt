-- Definitions one after another: the tables of their bodies, their kinds and their defaults.
use Rattle.std.proofs.Common.{◌≡◌, ℕ, ◌+◌, ◌<◌, Bool, true, false, ◌||◌, cond, List, [], ◌∷◌, ◌++◌, Option, Some, None, is_some, map, filter, take, length, get_or, refl, sym, ap, ◌∙◌, subst, string_bytes, arith}
use Rattle.std.specs.Borrow.{Bor}
use Rattle.std.specs.BTreeMap.{BTreeMap, get_by}
use Rattle.std.specs.Cmp.Lexicographic.{slice_cmp}
use Rattle.std.specs.Ordering.{nat_cmp}
use Rattle.std.specs.List.{flat_map}
use Rattle.std.specs.Map.{update}
use Rattle.std.specs.Str.{bytes_eq}
use Rattle.std.proofs.lemmas.Grind.{flat_map-append}
use Rattle.std.proofs.lemmas.List.{map-append, append_assoc, append-nil, length-append}
use Rattle.std.proofs.lemmas.List.Elements.{filter-append}
use Rattle.std.proofs.lemmas.List.Folds.{list_any-append}
use Rattle.std.proofs.lemmas.Slice.Eq.{bytes_eq-Decides}
use Rattle.cs_grammar.specs.Tree.{Tree, DefinitionTree, defined_name, body, definitions}
use Rattle.cs_grammar.specs.Bodies.{bodies}
use Rattle.cs_grammar.specs.View.{expr_view, definition_view, file_view}
use Rattle.cs_grammar.specs.declared.ast.Definition.{Definition}
use Rattle.cs_grammar.specs.declared.ast.Expr.{Expr}
use Rattle.cs_grammar.specs.declared.ast.File.{File}
use Rattle.cs_conditions.specs.Checks.{lead_view, TellsLead, TellsLeads, TellsKindsOf, TellsDefaultsOf, kinds_by, kinds_of, is_declared, default_if, literal_view}
use Rattle.cs_conditions.specs.Defaults.{lead, lead_of, nowhere, default_within}
use Rattle.cs_conditions.specs.Kinds.{meet, kinds, kinds_of_bodies, all_kinds}
use Rattle.cs_conditions.specs.Known.{default_known}
use Rattle.cs_conditions.specs.declared.defaults.Lead as rust
use Rattle.cs_conditions.specs.declared.kinds.Kinds.{Kinds}
use Rattle.cs_conditions.specs.declared.kinds.KindTable.{KindTable}
use Rattle.cs_conditions.proofs.Walks.{take_at}

-- ---- bodies

-- a further body, behind those of which the table tells
abbrev pub LeadsOn : rust.Lead → Option rust.Lead → Tree → Type 0
LeadsOn l o e = (bs : List Tree) → TellsLead o bs → TellsLead (Some l) (bs ++ e ∷ [])

longer : (bs : List Tree) (e : Tree) → 0 < length (bs ++ e ∷ [])
longer bs e = let long = length-append bs (e ∷ []) in omega (arith, long)

-- the first one leads
pub first_lead : (l : rust.Lead) (o : Option rust.Lead) (e : Tree) → is_some o ≡ false → lead_view l ≡ lead e → LeadsOn l o e
first_lead l None e h leads bs none = (longer bs e, leads ∙ sym (ap (λ cs. lead_of (cs ++ e ∷ [])) none))
first_lead l (Some x) e h leads bs told = cc

-- with another one there is no lead
pub later_lead : (l : rust.Lead) (o : Option rust.Lead) (e : Tree) → is_some o ≡ true → lead_view l ≡ nowhere → LeadsOn l o e
later_lead l None e h none bs told = cc
later_lead l (Some x) e h none bs told = (longer bs e, none ∙ sym (by bs told.0))
  where
    by : (cs : List Tree) → 0 < length cs → lead_of (cs ++ e ∷ []) ≡ nowhere
    by [] long = absurd (omega (arith, long))
    by (c ∷ []) long = refl
    by (c ∷ f ∷ cs) long = refl

bodies_push : (t : List ℕ) (ds : List DefinitionTree) (d : Definition) → bodies t (ds ++ definition_view d ∷ []) ≡ bodies t ds ++ cond (bytes_eq (string_bytes d.name) t) (expr_view d.body ∷ []) []
bodies_push t ds d =
    ap (map body) (filter-append (λ (x : DefinitionTree). bytes_eq (defined_name x) t) ds (definition_view d ∷ []))
    ∙ map-append body (filter (λ (x : DefinitionTree). bytes_eq (defined_name x) t) ds) (filter (λ (x : DefinitionTree). bytes_eq (defined_name x) t) (definition_view d ∷ []))
    ∙ ap (λ xs. bodies t ds ++ xs) (elim (bytes_eq (string_bytes d.name) t) as (λ b. map body (cond b (definition_view d ∷ []) []) ≡ cond b (expr_view d.body ∷ []) []) [ true ↦ refl | false ↦ refl ])

-- how a definition's body leads is put into the table
pub lead_added : (m n : BTreeMap (Bor (List ℕ)) rust.Lead) (ds : List DefinitionTree) (d : Definition) (l : rust.Lead) (name : List ℕ) → TellsLeads m ds → name ≡ string_bytes d.name
    → LeadsOn l (get_by (λ k. slice_cmp nat_cmp name k.now) m) (expr_view d.body)
    → ((t : List ℕ) → get_by (λ k. slice_cmp nat_cmp t k.now) n ≡ update bytes_eq (λ ns. get_by (λ k. slice_cmp nat_cmp ns k.now) m) name (Some l) t)
    → TellsLeads n (ds ++ definition_view d ∷ [])
lead_added m n ds d l name told same leads after t =
    subst (λ o. TellsLead o (bodies t (ds ++ definition_view d ∷ []))) (sym (after t))
    (subst (λ bs. TellsLead (cond (bytes_eq name t) (Some l) (get_by (λ k. slice_cmp nat_cmp t k.now) m)) bs) (sym (bodies_push t ds d ∙ ap (λ s. bodies t ds ++ cond (bytes_eq s t) (expr_view d.body ∷ []) []) (sym same)))
    (by (bytes_eq name t) refl))
  where
    by : (b : Bool) → bytes_eq name t ≡ b → TellsLead (cond b (Some l) (get_by (λ k. slice_cmp nat_cmp t k.now) m)) (bodies t ds ++ cond b (expr_view d.body ∷ []) [])
    by true h = subst (λ s. LeadsOn l (get_by (λ k. slice_cmp nat_cmp s k.now) m) (expr_view d.body)) ((bytes_eq-Decides name t).0 h) leads (bodies t ds) (told t)
    by false h = subst (λ bs. TellsLead (get_by (λ k. slice_cmp nat_cmp t k.now) m) bs) (sym (append-nil (bodies t ds))) (told t)

-- ---- kinds

kinds_push : (known : List ℕ → Kinds) (k : Kinds) (es : List Tree) (e : Tree) → kinds_of_bodies known k (es ++ e ∷ []) ≡ meet (kinds_of_bodies known k es) (kinds known e)
kinds_push known k [] e = refl
kinds_push known k (x ∷ es) e = kinds_push known (meet k (kinds known x)) es e

-- a definition's body is put into the table, where it has the kinds k
pub kinds_added : (known : List ℕ → Kinds) (m n : KindTable) (ds : List DefinitionTree) (d : Definition) (k : Kinds) (name : List ℕ) → TellsKindsOf m known ds → name ≡ string_bytes d.name
    → k ≡ meet (kinds_of known ds name) (kinds known (expr_view d.body))
    → ((t : List ℕ) → get_by (λ x. slice_cmp nat_cmp t x.now) n.table ≡ update bytes_eq (λ ns. get_by (λ x. slice_cmp nat_cmp ns x.now) m.table) name (Some k) t)
    → TellsKindsOf n known (ds ++ definition_view d ∷ [])
kinds_added known m n ds d k name told same is after t =
    ap kinds_by (after t)
    ∙ by (bytes_eq name t) refl
    ∙ sym (ap (kinds_of_bodies known all_kinds) (bodies_push t ds d ∙ ap (λ s. bodies t ds ++ cond (bytes_eq s t) (expr_view d.body ∷ []) []) (sym same)))
  where
    by : (b : Bool) → bytes_eq name t ≡ b → kinds_by (cond b (Some k) (get_by (λ x. slice_cmp nat_cmp t x.now) m.table)) ≡ kinds_of_bodies known all_kinds (bodies t ds ++ cond b (expr_view d.body ∷ []) [])
    by true h = is ∙ ap (λ s. meet (kinds_of known ds s) (kinds known (expr_view d.body))) ((bytes_eq-Decides name t).0 h) ∙ sym (kinds_push known all_kinds (bodies t ds) (expr_view d.body))
    by false h = told t ∙ ap (kinds_of_bodies known all_kinds) (sym (append-nil (bodies t ds)))

-- ---- defaults

or_nothing : (b : Bool) → (b || false) ≡ b
or_nothing true = refl
or_nothing false = refl

or_true : (b : Bool) → (b || true) ≡ true
or_true true = refl
or_true false = refl

declared_push : (s : List ℕ) (ds : List DefinitionTree) (d : DefinitionTree) → is_declared (ds ++ d ∷ []) s ≡ (is_declared ds s || bytes_eq (defined_name d) s)
declared_push s ds d = list_any-append (λ (x : DefinitionTree). bytes_eq (defined_name x) s) ds (d ∷ []) ∙ ap (λ b. is_declared ds s || b) (or_nothing (bytes_eq (defined_name d) s))

abbrev pub Literals : Type 0
Literals = BTreeMap (Bor (List ℕ)) (Bor Expr)

module _ (m : Literals) (known : List ℕ → Option Tree) (ds : List DefinitionTree) (d : DefinitionTree) (told : TellsDefaultsOf m known ds) (name : List ℕ) (same : defined_name d ≡ name) where
  declared_with : (t : List ℕ) → is_declared (ds ++ d ∷ []) t ≡ (is_declared ds t || bytes_eq name t)
  declared_with t = declared_push t ds d ∙ ap (λ s. is_declared ds t || bytes_eq s t) same

  pub default_added : (n : Literals) (e : Bor Expr) → known name ≡ Some (expr_view e.now)
      → ((t : List ℕ) → get_by (λ k. slice_cmp nat_cmp t k.now) n ≡ update bytes_eq (λ ns. get_by (λ k. slice_cmp nat_cmp ns k.now) m) name (Some e) t)
      → TellsDefaultsOf n known (ds ++ d ∷ [])
  default_added n e has after t = ap literal_view (after t) ∙ by (bytes_eq name t) refl ∙ sym (ap (λ b. default_if b (known t)) (declared_with t))
    where
      by : (b : Bool) → bytes_eq name t ≡ b → literal_view (cond b (Some e) (get_by (λ k. slice_cmp nat_cmp t k.now) m)) ≡ default_if (is_declared ds t || b) (known t)
      by true h = sym has ∙ ap known ((bytes_eq-Decides name t).0 h) ∙ ap (λ b. default_if b (known t)) (sym (or_true (is_declared ds t)))
      by false h = told t ∙ ap (λ b. default_if b (known t)) (sym (or_nothing (is_declared ds t)))

  pub default_left_out : known name ≡ None → TellsDefaultsOf m known (ds ++ d ∷ [])
  default_left_out has t = told t ∙ by (bytes_eq name t) refl (is_declared ds t) ∙ sym (ap (λ b. default_if b (known t)) (declared_with t))
    where
      by : (b : Bool) → bytes_eq name t ≡ b → (a : Bool) → default_if a (known t) ≡ default_if (a || b) (known t)
      by true h true = refl
      by true h false = sym (ap known (sym ((bytes_eq-Decides name t).0 h)) ∙ has)
      by false h true = refl
      by false h false = refl

-- a name that isn't declared has no body
no_bodies : (ds : List DefinitionTree) (s : List ℕ) → is_declared ds s ≡ false → bodies s ds ≡ []
no_bodies [] s h = refl
no_bodies (d ∷ ds) s h = by (bytes_eq (defined_name d) s) h (no_bodies ds s)
  where
    by : (b : Bool) → (b || is_declared ds s) ≡ false → (is_declared ds s ≡ false → bodies s ds ≡ []) → map body (cond b (d ∷ filter (λ (x : DefinitionTree). bytes_eq (defined_name x) s) ds) (filter (λ (x : DefinitionTree). bytes_eq (defined_name x) s) ds)) ≡ []
    by true e later = cc
    by false e later = later e

-- so it hands nothing on
pub only_declared : (ds : List DefinitionTree) (s : List ℕ) → default_if (is_declared ds s) (default_known ds s) ≡ default_known ds s
only_declared ds s = by (is_declared ds s) refl
  where
    by : (b : Bool) → is_declared ds s ≡ b → default_if b (default_known ds s) ≡ default_known ds s
    by true h = refl
    by false h = sym (ap (λ bs. default_within ds 64 (lead_of bs)) (no_bodies ds s h))

-- ---- definitions and files, one after another

pub definition_more : (ds : List DefinitionTree) (xs : List Definition) (i : ℕ) (d : Definition) → i < length xs → d ≡ get_or xs i d → ds ++ map definition_view (take (i + 1) xs) ≡ (ds ++ map definition_view (take i xs)) ++ definition_view d ∷ []
definition_more ds xs i d l is =
    ap (λ ys. ds ++ map definition_view ys) (take_at xs i d l is)
    ∙ ap (λ ys. ds ++ ys) (map-append definition_view (take i xs) (d ∷ []))
    ∙ sym (append_assoc ds (map definition_view (take i xs)) (definition_view d ∷ []))

pub definitions_more : (fs : List File) (i : ℕ) (f : File) → i < length fs → f ≡ get_or fs i f → flat_map definitions (map file_view (take (i + 1) fs)) ≡ flat_map definitions (map file_view (take i fs)) ++ map definition_view f.definitions.items
definitions_more fs i f l is =
    ap (λ gs. flat_map definitions (map file_view gs)) (take_at fs i f l is)
    ∙ ap (flat_map definitions) (map-append file_view (take i fs) (f ∷ []))
    ∙ flat_map-append definitions (map file_view (take i fs)) (file_view f ∷ [])
    ∙ ap (λ ds. flat_map definitions (map file_view (take i fs)) ++ ds) (append-nil (map definition_view f.definitions.items))
