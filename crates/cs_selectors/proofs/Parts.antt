-- What declarations and fields are one after another, in the code and in the definitions.
use Rattle.std.proofs.Common.{◌≡◌, ℕ, suc, ◌<◌, ◌≤◌, Bool, true, false, ◌||◌, cond, List, [], ◌∷◌, ◌++◌, map, drop, length, refl, sym, ap, ◌∙◌, arith}
use Rattle.std.specs.Borrow.{Bor}
use Rattle.std.proofs.lemmas.Simd.{map-map}
use Rattle.cs_grammar.specs.Tree.{Selector, Tree, conjunction, more, field, declared, embedded, conditional}
use Rattle.cs_grammar.specs.View.{SeenDeclaration, field_seen, embedding_seen, conditional_seen, expr_view, exprs_view, trees_of, field_view, fields_view, fields_of, declaration_view, declarations_view, declarations_of, definition_view}
use Rattle.cs_grammar.specs.declared.ast.Declaration.{Declaration}
use Rattle.cs_grammar.specs.declared.ast.Expr.{Expr}
use Rattle.cs_grammar.specs.declared.ast.Field.{Field}
use Rattle.cs_grammar.specs.declared.ast.File.{File}
use Rattle.cs_grammar.proofs.Views.{view-value}
use Rattle.cs_plain.specs.Selecting.{referring, referring_each, referring_fields, referring_declarations}
use Rattle.cs_selectors.specs.Checks.{seen_has, uses_seen, is_for_seen, only_if, only_for, referring_field_seen, referring_seen, tree_at}
use Rattle.cs_selectors.specs.Having.{declarations_have}
use Rattle.cs_selectors.specs.Reached.{declarations_for}
use Rattle.cs_selectors.specs.Selectors.{operand, operands, together}
use Rattle.cs_selectors.specs.Uses.{Use, uses, uses_fields, uses_declarations, uses_of}

-- ---- selectors in them

has_seen_parts : (d : SeenDeclaration) (ds : List SeenDeclaration) → declarations_have (declarations_of (d ∷ ds)) ≡ (seen_has d || declarations_have (declarations_of ds))
has_seen_parts (field_seen f) ds = refl
has_seen_parts (embedding_seen o e) ds = refl
has_seen_parts (conditional_seen o cs e) ds = refl

pub has_parts : (d : Declaration) (ds : List Declaration) → declarations_have (declarations_view (d ∷ ds)) ≡ (seen_has (declaration_view d) || declarations_have (declarations_view ds))
has_parts d ds = has_seen_parts (declaration_view d) (map declaration_view ds)

module _ (i : ℕ) where
  pub uses_field_parts : (f : Field) (fs : List Field) → uses_fields i (fields_view (f ∷ fs)) ≡ uses i (expr_view f.value) ++ uses_fields i (fields_view fs)
  uses_field_parts f fs = ap (λ e. uses i e ++ uses_fields i (fields_view fs)) (view-value f)

  uses_seen_parts : (d : SeenDeclaration) (ds : List SeenDeclaration) → uses_declarations i (declarations_of (d ∷ ds)) ≡ uses_seen i d ++ uses_declarations i (declarations_of ds)
  uses_seen_parts (field_seen f) ds = refl
  uses_seen_parts (embedding_seen o e) ds = refl
  uses_seen_parts (conditional_seen o cs e) ds = refl

  pub uses_parts : (d : Declaration) (ds : List Declaration) → uses_declarations i (declarations_view (d ∷ ds)) ≡ uses_seen i (declaration_view d) ++ uses_declarations i (declarations_view ds)
  uses_parts d ds = uses_seen_parts (declaration_view d) (map declaration_view ds)

-- of a file
abbrev pub file_uses : ℕ → File → List Use
file_uses i f = uses_of i (map definition_view f.definitions.items)

-- ---- declarations of a label

module _ (s : List ℕ) where
  pub for_parts : (f : Field) (fs : List Field) → declarations_for s (fields_view (f ∷ fs)) ≡ only_for s (field_view f) ++ declarations_for s (fields_view fs)
  for_parts f fs = by (is_for_seen s (field_view f))
    where
      by : (b : Bool) → cond b (field_view f ∷ declarations_for s (fields_view fs)) (declarations_for s (fields_view fs)) ≡ only_if b (field_view f) ++ declarations_for s (fields_view fs)
      by true = refl
      by false = refl

-- ---- copies

module _ (by : List ℕ → List Selector → List ℕ) where
  pub referring_trees : (es : List Expr) → trees_of (map (λ e. referring by (expr_view e)) es) ≡ referring_each by (exprs_view es)
  referring_trees [] = refl
  referring_trees (e ∷ es) = ap (more (referring by (expr_view e))) (referring_trees es)

  pub referring_field_list : (fs : List Field) → fields_of (map (λ f. referring_field_seen by (field_view f)) fs) ≡ referring_fields by (fields_view fs)
  referring_field_list [] = refl
  referring_field_list (f ∷ fs) = ap (field (field_view f).label (field_view f).mark (referring by (field_view f).value)) (referring_field_list fs)

  referring_seen_cons : (d : SeenDeclaration) (cs ds : List SeenDeclaration) → declarations_of cs ≡ referring_declarations by (declarations_of ds) → declarations_of (referring_seen by d ∷ cs) ≡ referring_declarations by (declarations_of (d ∷ ds))
  referring_seen_cons (field_seen f) cs ds h = ap (declared f.label f.mark (referring by f.value)) h
  referring_seen_cons (embedding_seen o e) cs ds h = ap (embedded o (referring by e)) h
  referring_seen_cons (conditional_seen o qs e) cs ds h = ap (conditional o qs (referring by e)) h

  referring_seen_parts : (ds : List SeenDeclaration) → declarations_of (map (referring_seen by) ds) ≡ referring_declarations by (declarations_of ds)
  referring_seen_parts [] = refl
  referring_seen_parts (d ∷ ds) = referring_seen_cons d (map (referring_seen by) ds) ds (referring_seen_parts ds)

  pub referring_parts : (ds : List Declaration) → declarations_of (map (λ d. referring_seen by (declaration_view d)) ds) ≡ referring_declarations by (declarations_view ds)
  referring_parts ds = ap declarations_of (sym (map-map (referring_seen by) declaration_view ds)) ∙ referring_seen_parts (map declaration_view ds)

  pub operands_referring : (es : List Tree) → trees_of (map (λ e. referring by (operand e)) es) ≡ referring_each by (operands es)
  operands_referring [] = refl
  operands_referring (e ∷ es) = ap (more (referring by (operand e))) (operands_referring es)

-- ---- all values at once

pub one_value : (xs : List (Bor Expr)) (x : Bor Expr) → length xs < 2 → xs ≡ x ∷ drop 1 xs → together (map tree_at xs) ≡ tree_at x
one_value [] x l is = let no : length {A = Bor Expr} [] ≡ suc (length {A = Bor Expr} []) = ap length is in absurd (omega (arith, no))
one_value (y ∷ []) x l is = ap (λ ys. together (map tree_at ys)) is
one_value (y ∷ z ∷ ys) x l is = absurd (omega (arith, l))

pub several_values : (xs : List (Bor Expr)) → 2 ≤ length xs → together (map tree_at xs) ≡ conjunction (operands (map tree_at xs))
several_values [] l = absurd (omega (arith, l))
several_values (x ∷ []) l = absurd (omega (arith, l))
several_values (x ∷ y ∷ ys) l = refl
