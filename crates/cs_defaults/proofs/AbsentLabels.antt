-- The labels of a literal's first declarations that may be absent.
use Rattle.std.proofs.Common.{◌≡◌, ℕ, ◌+◌, ◌<◌, Bool, true, false, cond, List, [], ◌∷◌, ◌++◌, take, length, get_or, string_bytes, sym, ap, ap₂, ◌∙◌}
use Rattle.std.proofs.lemmas.List.{take_more}
use Rattle.cs_grammar.specs.Tree.{Label}
use Rattle.cs_grammar.specs.View.{expr_view, field_view, fields_view}
use Rattle.cs_grammar.specs.declared.ast.Field.{Field}
use Rattle.cs_grammar.proofs.Views.{view-label, view-mark, view-value}
use Rattle.cs_defaults.specs.Absent.{may_exclude, absent_labels}

pub take_at : {X : Type 0} (xs : List X) (i : ℕ) (x : X) → i < length xs → x ≡ get_or xs i x → take (i + 1) xs ≡ take i xs ++ x ∷ []
take_at xs i x l is = take_more xs i x l ∙ ap (λ y. take i xs ++ y ∷ []) (sym is)

module _ (has : List ℕ → Bool) where
  absent_push : (xs : List Field) (x : Field) → absent_labels has (fields_view (xs ++ x ∷ [])) ≡ absent_labels has (fields_view xs) ++ cond (may_exclude has x.asked x.mark (expr_view x.value)) (string_bytes x.label ∷ []) []
  absent_push [] x =
      ap₂ (λ m e. cond (may_exclude has (field_view x).label.asked m e) ((field_view x).label.text ∷ []) []) (view-mark x) (view-value x)
      ∙ ap (λ (l : Label). cond (may_exclude has l.asked x.mark (expr_view x.value)) (l.text ∷ []) []) (view-label x)
  absent_push (y ∷ xs) x = by (may_exclude has (field_view y).label.asked (field_view y).mark (field_view y).value) (absent_push xs x)
    where
      more : List (List ℕ)
      more = cond (may_exclude has x.asked x.mark (expr_view x.value)) (string_bytes x.label ∷ []) []

      by : (b : Bool) → absent_labels has (fields_view (xs ++ x ∷ [])) ≡ absent_labels has (fields_view xs) ++ more → cond b ((field_view y).label.text ∷ absent_labels has (fields_view (xs ++ x ∷ []))) (absent_labels has (fields_view (xs ++ x ∷ []))) ≡ cond b ((field_view y).label.text ∷ absent_labels has (fields_view xs)) (absent_labels has (fields_view xs)) ++ more
      by true h = ap (λ ls. (field_view y).label.text ∷ ls) h
      by false h = h

  -- and one more
  pub absent_more : (xs : List Field) (i : ℕ) (x : Field) → i < length xs → x ≡ get_or xs i x → absent_labels has (fields_view (take (i + 1) xs)) ≡ absent_labels has (fields_view (take i xs)) ++ cond (may_exclude has x.asked x.mark (expr_view x.value)) (string_bytes x.label ∷ []) []
  absent_more xs i x l is = ap (λ ys. absent_labels has (fields_view ys)) (take_at xs i x l is) ∙ absent_push (take i xs) x
