-- Tables of the sole bodies of names.
use Rattle.std.proofs.Common.{◌≡◌, ℕ, ◌+◌, ◌<◌, Bool, true, false, cond, List, [], ◌∷◌, ◌++◌, Option, Some, None, is_some, map, filter, take, length, get_or, refl, sym, ap, ◌∙◌, string_bytes}
use Rattle.std.specs.Borrow.{Bor}
use Rattle.std.specs.HashMap.{HashMap, get_by}
use Rattle.std.specs.Map.{update}
use Rattle.std.specs.Option.{option_map}
use Rattle.std.specs.Str.{bytes_eq}
use Rattle.std.proofs.lemmas.List.{map-append, append_assoc, append-nil}
use Rattle.std.proofs.lemmas.List.Elements.{filter-append}
use Rattle.std.proofs.lemmas.Slice.Eq.{bytes_eq-Decides}
use Rattle.cs_grammar.specs.Tree.{Tree, body, defined_name, DefinitionTree}
use Rattle.cs_grammar.specs.View.{expr_view, definition_view}
use Rattle.cs_grammar.specs.declared.ast.Definition.{Definition}
use Rattle.cs_grammar.specs.declared.ast.Expr.{Expr}
use Rattle.cs_resolve.specs.Declarations.{bodies_of}
use Rattle.cs_resolve.specs.Narrowed.{sole_body, HoldsSole}
use Rattle.cs_resolve.proofs.Trees.{take_at}

abbrev view : Option (Bor Expr) → Option Tree
view o = option_map (λ e. expr_view e.now) o

-- the body of a name that gets one more
abbrev pub pick : Option (Option Tree) → Tree → Option Tree
pick None e = Some e
pick (Some before) e = None

sole_push : (es : List Tree) (e : Tree) → sole_body (es ++ e ∷ []) ≡ Some (pick (sole_body es) e)
sole_push [] e = refl
sole_push (a ∷ []) e = refl
sole_push (a ∷ b ∷ es) e = refl

pub pick_again : (o : Option (Option (Bor Expr))) (p : Option (Option Tree)) (e : Tree) → option_map view o ≡ p → is_some o ≡ true → None ≡ pick p e
pick_again None p e h there = cc
pick_again (Some x) None e h there = cc
pick_again (Some x) (Some y) e h there = refl

pub pick_first : (o : Option (Option (Bor Expr))) (p : Option (Option Tree)) (e : Tree) → option_map view o ≡ p → is_some o ≡ false → Some e ≡ pick p e
pick_first None None e h there = refl
pick_first None (Some y) e h there = cc
pick_first (Some x) p e h there = cc

-- the bodies of a name in one more definition
bodies_push : (t : List ℕ) (ds : List DefinitionTree) (d : Definition) → bodies_of t (ds ++ definition_view d ∷ []) ≡ bodies_of t ds ++ cond (bytes_eq (string_bytes d.name) t) (expr_view d.body ∷ []) []
bodies_push t ds d =
    ap (map body) (filter-append (λ (x : DefinitionTree). bytes_eq (defined_name x) t) ds (definition_view d ∷ []))
    ∙ map-append body (filter (λ (x : DefinitionTree). bytes_eq (defined_name x) t) ds) (filter (λ (x : DefinitionTree). bytes_eq (defined_name x) t) (definition_view d ∷ []))
    ∙ ap (λ xs. bodies_of t ds ++ xs) (elim (bytes_eq (string_bytes d.name) t) as (λ b. map body (cond b (definition_view d ∷ []) []) ≡ cond b (expr_view d.body ∷ []) []) [ true ↦ refl | false ↦ refl ])

pub sole_recorded : {S : Type 0} (m n : HashMap (Bor (List ℕ)) (Option (Bor Expr)) S) (ds : List DefinitionTree) (d : Definition) (put : Option (Bor Expr)) → HoldsSole m ds → view put ≡ pick (sole_body (bodies_of (string_bytes d.name) ds)) (expr_view d.body) → (name : List ℕ) → name ≡ string_bytes d.name → ((t : List ℕ) → get_by (λ k. bytes_eq t k.now) n ≡ update bytes_eq (λ ns. get_by (λ k. bytes_eq ns k.now) m) name (Some put) t) → HoldsSole n (ds ++ definition_view d ∷ [])
sole_recorded m n ds d put held picked name same after t =
    ap (option_map view) (after t ∙ ap (λ u. update bytes_eq (λ ns. get_by (λ k. bytes_eq ns k.now) m) u (Some put) t) same)
    ∙ by (bytes_eq (string_bytes d.name) t) refl
    ∙ ap sole_body (sym (bodies_push t ds d))
  where
    by : (b : Bool) → bytes_eq (string_bytes d.name) t ≡ b → option_map view (cond b (Some put) (get_by (λ k. bytes_eq t k.now) m)) ≡ sole_body (bodies_of t ds ++ cond b (expr_view d.body ∷ []) [])
    by true e = ap Some (picked ∙ ap (λ u. pick (sole_body (bodies_of u ds)) (expr_view d.body)) ((bytes_eq-Decides (string_bytes d.name) t).0 e)) ∙ sym (sole_push (bodies_of t ds) (expr_view d.body))
    by false e = held t ∙ ap sole_body (sym (append-nil (bodies_of t ds)))

-- ---- definitions and files, one after another

pub definition_more : (ds : List DefinitionTree) (xs : List Definition) (i : ℕ) (d : Definition) → i < length xs → d ≡ get_or xs i d → ds ++ map definition_view (take (i + 1) xs) ≡ (ds ++ map definition_view (take i xs)) ++ definition_view d ∷ []
definition_more ds xs i d l is =
    ap (λ ys. ds ++ map definition_view ys) (take_at xs i d l is)
    ∙ ap (λ ys. ds ++ ys) (map-append definition_view (take i xs) (d ∷ []))
    ∙ sym (append_assoc ds (map definition_view (take i xs)) (definition_view d ∷ []))
