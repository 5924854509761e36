-- Shapes and declarations that are made of expressions and fields, one by one.
use Rattle.std.proofs.Common.{◌≡◌, ℕ, ◌+◌, ◌<◌, ◌≤◌, Bool, true, ◌&&◌, List, [], ◌∷◌, ◌++◌, map, take, drop, length, get_or, refl, sym, ap, ap₂, ◌∙◌}
use Rattle.std.specs.List.{list_all}
use Rattle.std.proofs.lemmas.List.{map-append, take_all, drop_all}
use Rattle.std.proofs.lemmas.List.Folds.{list_all-append}
use Rattle.cs_grammar.specs.Tree.{Label}
use Rattle.cs_grammar.specs.View.{expr_view, exprs_view, field_view, fields_view}
use Rattle.cs_grammar.specs.declared.ast.Expr.{Expr}
use Rattle.cs_grammar.specs.declared.ast.Field.{Field}
use Rattle.cs_package.specs.Expression as cue
use Rattle.cs_package.specs.Expression.{Expression, Declaration}
use Rattle.cs_resolve.specs.Refinement.{Refinements}
use Rattle.cs_resolve.specs.Resolved.{resolved, resolved_all, resolved_fields}
use Rattle.cs_resolve.specs.Scopes.{key_places, places, places_all, places_fields}
use Rattle.cs_resolve.specs.Steps.{faults_in, IsNameRefusal}
use Rattle.cs_package.specs.View.{mark_of, expression_of, expressions_of, part_of, declarations_of, is_known, is_known_part}
use Rattle.cs_resolve.specs.declared.fault.ResolveFault.{ResolveFault}
use Rattle.cs_package.specs.declared.shape.Shape.{Shape}
use Rattle.cs_package.specs.declared.shape.Part.{Part}
use Rattle.cs_resolve.proofs.NameFaults.{Found, faults_in-append, refused-same, refused-left}
use Rattle.cs_resolve.proofs.Refusals.{cut, none_more}
use Rattle.cs_resolve.proofs.Trees.{map_more}

-- how a list is made of the parts of another: the faults of all parts, and of one; what is seen in what is made, and
-- what a part means; and what is known of what is made
pub record Making (A B C : Type 0) : Type 0 where
  pub found : List A → Found
  pub found_at : A → Found
  pub parts : (a : A) (rest : List A) → found (a ∷ rest) ≡ found_at a ++ found rest
  pub none : found [] ≡ []
  pub seen : B → C
  pub meant : A → C
  pub known : B → Bool

module _ {A B C : Type 0} (M : Making A B C) where
  -- the first i parts are made, and none of them is at fault
  abbrev pub AreMade : List B → List A → ℕ → Type 0
  AreMade bs xs i = (map M.seen bs ≡ map M.meant (take i xs)) × (list_all M.known bs ≡ true) × (M.found xs ≡ M.found (drop i xs))

  pub none-made : (bs : List B) (xs : List A) → bs ≡ [] → AreMade bs xs 0
  none-made bs xs empty = (ap (map M.seen) empty, ap (list_all M.known) empty, refl)

  pub one-made : (bs cs : List B) (b : B) (xs : List A) (i : ℕ) (a : A) → i < length xs → a ≡ get_or xs i a → cs ≡ bs ++ b ∷ [] → AreMade bs xs i → M.seen b ≡ M.meant a → M.known b ≡ true → M.found_at a ≡ [] → AreMade cs xs (i + 1)
  one-made bs cs b xs i a l is grown made same known none = (
    ap (map M.seen) grown ∙ map-append M.seen bs (b ∷ []) ∙ ap₂ (λ ys y. ys ++ y ∷ []) made.0 same ∙ sym (map_more M.meant xs i a l is),
    ap (list_all M.known) grown ∙ list_all-append M.known bs (b ∷ []) ∙ ap₂ (λ p q. p && (q && true)) made.1 known,
    none_more M.found M.found_at M.parts xs i a l is made.2 none,
  )

  pub all-made : (bs : List B) (xs ys : List A) (i : ℕ) → length xs ≤ i → xs ≡ ys → AreMade bs xs i → (map M.seen bs ≡ map M.meant ys) × (list_all M.known bs ≡ true) × (M.found ys ≡ [])
  all-made bs xs ys i end same made = (
    made.0 ∙ ap (map M.meant) (take_all i xs end ∙ same),
    made.1,
    ap M.found (sym same) ∙ made.2 ∙ ap M.found (drop_all i xs end) ∙ M.none,
  )

  -- where a part is refused, its fault is the first
  pub refused-at : (e : ResolveFault) (bs : List B) (xs ys : List A) (i : ℕ) (a : A) → i < length xs → a ≡ get_or xs i a → xs ≡ ys → AreMade bs xs i → IsNameRefusal e (M.found_at a) → IsNameRefusal e (M.found ys)
  refused-at e bs xs ys i a l is same made here =
      refused-same e (M.found_at a ++ M.found (drop (i + 1) xs)) (M.found ys) (sym (cut M.found M.found_at M.parts xs i a l is made.2) ∙ ap M.found same) (refused-left e (M.found_at a) (M.found (drop (i + 1) xs)) here)

-- the declaration of a field
abbrev pub declared : Refinements → Field → Declaration Expression
declared rs f = record { label = (field_view f).label.text; mark = mark_of (field_view f).mark; value = resolved rs (field_view f).value }

module _ (rs : Refinements) (file : ℕ) (ns : List (List ℕ)) (scopes : List (List Label)) where
  abbrev pub of_exprs : Making Expr Shape Expression
  of_exprs = record {
    found = λ es. faults_in file ns (places_all scopes (exprs_view es));
    found_at = λ e. faults_in file ns (places scopes (expr_view e));
    parts = λ e es. faults_in-append file ns (places scopes (expr_view e)) (places_all scopes (exprs_view es));
    none = refl;
    seen = expression_of ns;
    meant = λ e. resolved rs (expr_view e);
    known = is_known (length ns);
  }

  abbrev pub of_fields : Making Field Part (Declaration Expression)
  of_fields = record {
    found = λ fs. faults_in file ns (places_fields scopes (fields_view fs));
    found_at = λ f. faults_in file ns (key_places scopes (field_view f).mark ++ places scopes (field_view f).value);
    parts = λ f fs. faults_in-append file ns (key_places scopes (field_view f).mark ++ places scopes (field_view f).value) (places_fields scopes (fields_view fs));
    none = refl;
    seen = part_of ns;
    meant = declared rs;
    known = is_known_part (length ns);
  }

pub all_resolved : (rs : Refinements) (es : List Expr) → expressions_of (map (λ e. resolved rs (expr_view e)) es) ≡ resolved_all rs (exprs_view es)
all_resolved rs [] = refl
all_resolved rs (e ∷ es) = ap (cue.expression (resolved rs (expr_view e))) (all_resolved rs es)

pub all_declared : (rs : Refinements) (fs : List Field) → declarations_of (map (declared rs) fs) ≡ resolved_fields rs (fields_view fs)
all_declared rs [] = refl
all_declared rs (f ∷ fs) = ap (cue.declaration (field_view f).label.text (mark_of (field_view f).mark) (resolved rs (field_view f).value)) (all_declared rs fs)

pub same_declaration : (p q : Declaration Expression) → p.label ≡ q.label → p.mark ≡ q.mark → p.value ≡ q.value → p ≡ q
same_declaration p q a b c = λ j. record { label = a j; mark = b j; value = c j }
