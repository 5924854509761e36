-- What narrows a closed base, field by field and operand by operand.
use Rattle.std.proofs.Common.{◌≡◌, ℕ, suc, ◌+◌, ◌<◌, Bool, true, false, ◌&&◌, not, List, [], ◌∷◌, None, drop, length, get_or, nat_eq, refl, sym, ap, ap₂, ◌∙◌, string_bytes, add-one}
use Rattle.std.specs.List.{list_any}
use Rattle.std.specs.Str.{bytes_eq}
use Rattle.std.proofs.Math.Seq.{drop-cons}
use Rattle.cs_grammar.specs.Tree.{Tree}
use Rattle.cs_grammar.specs.View.{expr_view, exprs_view, fields_view}
use Rattle.cs_grammar.specs.declared.ast.Expr.{Expr}
use Rattle.cs_grammar.specs.declared.ast.Field.{Field}
use Rattle.cs_grammar.proofs.Views.{view-value, view-text}
use Rattle.cs_resolve.specs.Plain.{has_literal_or_reference}
use Rattle.cs_resolve.specs.Refinement.{narrows, narrowing}

-- a field, and whether those behind it narrow
abbrev narrows_here : List ℕ → Tree → List (List ℕ) → Bool → Bool
narrows_here t e ls behind = list_any (bytes_eq t) ls && not (has_literal_or_reference e) && behind

lacking : (t : List ℕ) (e : Tree) (ls : List (List ℕ)) (behind : Bool) → list_any (bytes_eq t) ls ≡ false → narrows_here t e ls behind ≡ false
lacking t e ls behind h = ap (λ b. b && not (has_literal_or_reference e) && behind) h

not_plain : (t : List ℕ) (e : Tree) (ls : List (List ℕ)) (behind : Bool) → has_literal_or_reference e ≡ true → narrows_here t e ls behind ≡ false
not_plain t e ls behind h = ap (λ b. list_any (bytes_eq t) ls && not b && behind) h ∙ elim (list_any (bytes_eq t) ls) as (λ b. (b && false && behind) ≡ false) [ true ↦ refl | false ↦ refl ]

both : (t : List ℕ) (e : Tree) (ls : List (List ℕ)) (behind : Bool) → list_any (bytes_eq t) ls ≡ true → has_literal_or_reference e ≡ false → narrows_here t e ls behind ≡ behind
both t e ls behind h g = ap₂ (λ a b. a && not b && behind) h g

module _ (xs : List Field) (i : ℕ) (x : Field) (l : i < length xs) (is : x ≡ get_or xs i x) (ls : List (List ℕ)) (all : narrows (fields_view xs) ls ≡ narrows (fields_view (drop i xs)) ls) (t : List ℕ) (label : t ≡ string_bytes x.label) where
  abbrev behind : Bool
  behind = narrows (fields_view (drop (i + 1) xs)) ls

  at_place : drop i xs ≡ x ∷ drop (i + 1) xs
  at_place = rw add-one (drop-cons xs i x l ∙ ap (λ y. y ∷ drop (suc i) xs) (sym is))

  cut : narrows (fields_view xs) ls ≡ narrows_here t (expr_view x.value) ls behind
  cut =
      all
      ∙ ap (λ ys. narrows (fields_view ys) ls) at_place
      ∙ ap₂ (λ u e. narrows_here u e ls behind) (view-text x ∙ sym label) (view-value x)

  pub no_label : list_any (bytes_eq t) ls ≡ false → narrows (fields_view xs) ls ≡ false
  no_label h = cut ∙ lacking t (expr_view x.value) ls behind h

  pub no_plain_value : has_literal_or_reference (expr_view x.value) ≡ true → narrows (fields_view xs) ls ≡ false
  no_plain_value h = cut ∙ not_plain t (expr_view x.value) ls behind h

  pub narrows_on : list_any (bytes_eq t) ls ≡ true → has_literal_or_reference (expr_view x.value) ≡ false → narrows (fields_view xs) ls ≡ narrows (fields_view (drop (i + 1) xs)) ls
  narrows_on h g = cut ∙ both t (expr_view x.value) ls behind h g

-- other than two operands narrow nothing
pub not_two : (es : List Expr) → not (nat_eq (length es) 2) ≡ true → narrowing (exprs_view es) ≡ None
not_two [] h = refl
not_two (a ∷ []) h = refl
not_two (a ∷ b ∷ []) h = cc
not_two (a ∷ b ∷ c ∷ es) h = refl
