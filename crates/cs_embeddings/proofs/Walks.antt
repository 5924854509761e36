-- Whether each part of a list is as it is to be, one after another.
use Rattle.std.proofs.Common.{◌≡◌, ℕ, zero, suc, ◌+◌, ◌<◌, ◌≤◌, Bool, true, false, ◌&&◌, not, List, [], ◌∷◌, map, drop, length, get_or, refl, sym, ap, ◌∙◌, add-one, arith}
use Rattle.std.proofs.Math.Seq.{drop-cons}
use Rattle.std.proofs.lemmas.Bool.Decides.{nat_tests}
use Rattle.std.specs.Prelude.{◌==◌}
use Rattle.std.specs.Borrow.{Bor}
use Rattle.std.specs.List.{list_all}
use Rattle.cs_grammar.specs.Tree.{Tree}
use Rattle.cs_grammar.specs.View.{expr_view, exprs_view, fields_view, SeenDeclaration, field_seen, embedding_seen, conditional_seen, declaration_view, declarations_view, declarations_of}
use Rattle.cs_grammar.specs.declared.ast.Declaration.{Declaration}
use Rattle.cs_grammar.specs.declared.ast.Expr.{Expr}
use Rattle.cs_grammar.specs.declared.ast.Field.{Field}
use Rattle.cs_grammar.proofs.Views.{view-value}
use Rattle.cs_embeddings.specs.Checks.{bodies_view}
use Rattle.cs_embeddings.specs.Embedded.{has_operand, embeds_well, fields_embed_well, declarations_embed_well}

pub at_place : {X : Type 0} (xs : List X) (i : ℕ) (x : X) → i < length xs → x ≡ get_or xs i x → drop i xs ≡ x ∷ drop (i + 1) xs
at_place xs i x l e = rw add-one (drop-cons xs i x l ∙ ap (λ y. y ∷ drop (suc i) xs) (sym e))

pub drop_all : {X : Type 0} (xs : List X) (i : ℕ) → length xs ≤ i → drop i xs ≡ []
drop_all [] zero l = refl
drop_all [] (suc i) l = refl
drop_all (x ∷ xs) zero l = absurd (omega (arith, l))
drop_all (x ∷ xs) (suc i) l = drop_all xs i (omega (arith, l))

not_zero : (n : ℕ) → (suc n == 0) ≡ false
not_zero n = grind (arith, nat_tests)

pub operand_there : (es : List Expr) → not (length es == 0) ≡ has_operand (exprs_view es)
operand_there [] = refl
operand_there (e ∷ es) = ap not (not_zero (length es))

-- F is whether all elements are well, each by `own`
module _ {A : Type 0} (F : List A → Bool) (own : A → Bool) (parts : (a : A) (rest : List A) → F (a ∷ rest) ≡ (own a && F rest)) (xs : List A) (i : ℕ) (all : F xs ≡ F (drop i xs)) where
  -- one more is
  pub well_more : (a : A) → i < length xs → a ≡ get_or xs i a → own a ≡ true → F xs ≡ F (drop (i + 1) xs)
  well_more a l is well = all ∙ ap F (at_place xs i a l is) ∙ parts a (drop (i + 1) xs) ∙ ap (λ b. b && F (drop (i + 1) xs)) well

  -- one isn't
  pub one_ill : (a : A) → i < length xs → a ≡ get_or xs i a → own a ≡ false → false ≡ F xs
  one_ill a l is ill = sym (all ∙ ap F (at_place xs i a l is) ∙ parts a (drop (i + 1) xs) ∙ ap (λ b. b && F (drop (i + 1) xs)) ill)

  -- all are
  pub all_well : F [] ≡ true → length xs ≤ i → true ≡ F xs
  all_well empty l = sym (all ∙ ap F (drop_all xs i l) ∙ empty)

-- ---- the parts

module _ (inner : Tree → Bool) where
  abbrev pub field_well : Field → Bool
  field_well f = embeds_well inner (expr_view f.value)

  pub field_parts : (f : Field) (fs : List Field) → fields_embed_well inner (fields_view (f ∷ fs)) ≡ (field_well f && fields_embed_well inner (fields_view fs))
  field_parts f fs = ap (λ e. embeds_well inner e && fields_embed_well inner (fields_view fs)) (view-value f)

  abbrev pub seen_well : SeenDeclaration → Bool
  seen_well (field_seen f) = embeds_well inner f.value
  seen_well (embedding_seen o e) = inner e
  seen_well (conditional_seen o qs e) = false

  seen_parts : (d : SeenDeclaration) (ds : List SeenDeclaration) → declarations_embed_well inner (declarations_of (d ∷ ds)) ≡ (seen_well d && declarations_embed_well inner (declarations_of ds))
  seen_parts (field_seen f) ds = refl
  seen_parts (embedding_seen o e) ds = refl
  seen_parts (conditional_seen o qs e) ds = refl

  abbrev pub declaration_well : Declaration → Bool
  declaration_well d = seen_well (declaration_view d)

  pub declaration_parts : (d : Declaration) (ds : List Declaration) → declarations_embed_well inner (declarations_view (d ∷ ds)) ≡ (declaration_well d && declarations_embed_well inner (declarations_view ds))
  declaration_parts d ds = seen_parts (declaration_view d) (map declaration_view ds)

  pub body_parts : (e : Bor Expr) (es : List (Bor Expr)) → list_all inner (bodies_view (e ∷ es)) ≡ (inner (expr_view e.now) && list_all inner (bodies_view es))
  body_parts e es = refl
