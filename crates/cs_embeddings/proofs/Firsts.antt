-- What the parts of a list find, one after another, and what is the first of it.
use Rattle.std.proofs.Common.{◌≡◌, ℕ, ◌+◌, ◌<◌, ◌≤◌, List, [], ◌∷◌, ◌++◌, Option, Some, None, Result, subst, map, drop, length, get_or, slice_get, refl, sym, ap, ◌∙◌}
use Rattle.std.proofs.lemmas.List.{map-append, append_assoc}
use Rattle.cs_grammar.specs.View.{expr_view, exprs_view, fields_view, SeenDeclaration, field_seen, embedding_seen, conditional_seen, declaration_view, declarations_view, declarations_of}
use Rattle.cs_grammar.specs.Tree.{DefinitionTree}
use Rattle.cs_grammar.specs.declared.ast.Declaration.{Declaration}
use Rattle.cs_grammar.specs.declared.ast.Expr.{Expr}
use Rattle.cs_grammar.specs.declared.ast.Field.{Field}
use Rattle.cs_grammar.proofs.Views.{view-value}
use Rattle.cs_embeddings.specs.Checks.{flaws_seen, Finds, IsFirst}
use Rattle.cs_embeddings.specs.Flaws.{unknown, unknown_in, unknown_each, flaws, flaws_here, flaws_fields, flaws_declarations}
use Rattle.cs_embeddings.proofs.Walks.{at_place, drop_all}

-- the first of the first part
pub first_left : {X : Type 0} (xs ys : List X) (x : X) → slice_get xs 0 ≡ Some x → slice_get (xs ++ ys) 0 ≡ Some x
first_left [] ys x h = cc
first_left (y ∷ xs) ys x h = h

pub found_left : {X : Type 0} (xs ys : List X) (x : Option X) → IsFirst x xs → IsFirst x (xs ++ ys)
found_left xs ys None h = tt
found_left xs ys (Some x) h = first_left xs ys x h

-- the first of the second part, where the first has none
pub first_right : {X : Type 0} (xs ys : List X) (x : X) → xs ≡ [] → slice_get ys 0 ≡ Some x → slice_get (xs ++ ys) 0 ≡ Some x
first_right xs ys x none h = rw none h

pub none_left : {X : Type 0} (xs ys : List X) → xs ≡ [] → xs ++ ys ≡ ys
none_left xs ys none = rw none refl

-- F gathers what the elements of a list have, one after another
module _ {A X : Type 0} (F : List A → List X) (own : A → List X) (parts : (a : A) (rest : List A) → F (a ∷ rest) ≡ own a ++ F rest) (xs : List A) (i : ℕ) (a : A) (l : i < length xs) (is : a ≡ get_or xs i a) (all : F xs ≡ F (drop i xs)) where
  cut : F xs ≡ own a ++ F (drop (i + 1) xs)
  cut = all ∙ ap F (at_place xs i a l is) ∙ parts a (drop (i + 1) xs)

  -- one element more has none
  pub none_more : own a ≡ [] → F xs ≡ F (drop (i + 1) xs)
  none_more none = cut ∙ none_left (own a) (F (drop (i + 1) xs)) none

  -- the first is that of this element
  pub first_here : (x : Option X) → IsFirst x (own a) → IsFirst x (F xs)
  first_here x h = subst (IsFirst x) (sym cut) (found_left (own a) (F (drop (i + 1) xs)) x h)

-- no element has any
pub all_none : {A X : Type 0} (F : List A → List X) (xs : List A) (i : ℕ) → F [] ≡ [] → length xs ≤ i → F xs ≡ F (drop i xs) → F xs ≡ []
all_none F xs i none l all = all ∙ ap F (drop_all xs i l) ∙ none

pub finds_as : {Y E A : Type 0} (view : E → Option A) (r : Result Y E) (xs ys : List A) → xs ≡ ys → Finds view r ys → Finds view r xs
finds_as view r xs ys e h = subst (λ zs. Finds view r zs) (sym e) h

-- ---- the parts

module _ (ds : List DefinitionTree) where
  pub field_parts : (f : Field) (fs : List Field) → flaws_fields ds (fields_view (f ∷ fs)) ≡ flaws ds (expr_view f.value) ++ flaws_fields ds (fields_view fs)
  field_parts f fs = ap (λ e. flaws ds e ++ flaws_fields ds (fields_view fs)) (view-value f)

  seen_parts : (d : SeenDeclaration) (cs : List SeenDeclaration) → flaws_declarations ds (declarations_of (d ∷ cs)) ≡ flaws_seen ds d ++ flaws_declarations ds (declarations_of cs)
  seen_parts (field_seen f) cs = refl
  seen_parts (embedding_seen o e) cs = sym (append_assoc (flaws_here ds o e) (flaws ds e) (flaws_declarations ds (declarations_of cs)))
  seen_parts (conditional_seen o qs e) cs = refl

  pub declaration_parts : (d : Declaration) (cs : List Declaration) → flaws_declarations ds (declarations_view (d ∷ cs)) ≡ flaws_seen ds (declaration_view d) ++ flaws_declarations ds (declarations_view cs)
  declaration_parts d cs = seen_parts (declaration_view d) (map declaration_view cs)

  pub name_parts : (e : Expr) (es : List Expr) → map unknown (unknown_each ds (exprs_view (e ∷ es))) ≡ map unknown (unknown_in ds (expr_view e)) ++ map unknown (unknown_each ds (exprs_view es))
  name_parts e es = map-append unknown (unknown_in ds (expr_view e)) (unknown_each ds (exprs_view es))
