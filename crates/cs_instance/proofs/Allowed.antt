-- A key is allowed by a struct literal's fields: it is among their labels in order, or each key is allowed.
use Rattle.std.proofs.Common.{◌≡◌, ℕ, Bool, true, false, ◌||◌, List, [], ◌∷◌, ◌<◌, length, get_or, map, Bor, Result, is_ok, refl, sym, ap, ap₂, ◌∙◌, subst}
use Rattle.std.specs.List.{list_any}
use Rattle.std.specs.List.Sorted.{IsSorted, IsBinarySearchResult, IsSearchInRange}
use Rattle.std.specs.Ordering.{nat_cmp, is_eq}
use Rattle.std.specs.Cmp.Lexicographic.{slice_cmp, texts_ties, nat_list_eq_equiv}
use Rattle.std.specs.Str.{bytes_eq}
use Rattle.std.proofs.lemmas.Cmp.{nat_list_cmp_total}
use Rattle.std.proofs.lemmas.List.Folds.{list_any_at}
use Rattle.std.proofs.lemmas.List.Sorted.{list_any-IsPermutation}
use Rattle.cs_flat.proofs.Halving.{told}
use Rattle.cs_flat.specs.View.{text_of}
use Rattle.cs_package.specs.Expression.{is_every}
use Rattle.cs_package.specs.View.{mark_of}
use Rattle.cs_instance.specs.Constraint.{allows}
use Rattle.cs_instance.specs.Keys.{AreKeysOf}
use Rattle.cs_instance.specs.Steps.{field_of}
use Rattle.cs_instance.specs.declared.rules.Field.{Field}

crossed : (a b c d : Bool) → ((a || b) || (c || d)) ≡ ((a || c) || (b || d))
crossed true b c d = refl
crossed false true true d = refl
crossed false true false d = refl
crossed false false c d = refl

module _ (k : List ℕ) where
  abbrev allowed : List Field → Bool
  allowed fs = list_any (λ d. allows d k) (map field_of fs)

  by_mark_or_label : (fs : List Field) → allowed fs ≡ (list_any (λ f. is_every (mark_of f.mark)) fs || list_any (bytes_eq k) (map (λ (f : Field). f.label.now) fs))
  by_mark_or_label [] = refl
  by_mark_or_label (f ∷ fs) = ap (λ b. (is_every (mark_of f.mark) || bytes_eq k f.label.now) || b) (by_mark_or_label fs) ∙ crossed (is_every (mark_of f.mark)) (bytes_eq k f.label.now) _ _

  by_order : (ts : List (Bor (List ℕ))) → list_any (λ t. is_eq (slice_cmp nat_cmp (text_of t) k)) ts ≡ list_any (bytes_eq k) (map text_of ts)
  by_order [] = refl
  by_order (t ∷ ts) = ap₂ ◌||◌ (sym (nat_list_eq_equiv.symm k t.now ∙ texts_ties t.now k)) (by_order ts)

  by_text : (ts : List (Bor (List ℕ))) → list_any (λ t. bytes_eq k (text_of t)) ts ≡ list_any (bytes_eq k) (map text_of ts)
  by_text [] = refl
  by_text (t ∷ ts) = ap (λ b. bytes_eq k t.now || b) (by_text ts)

  module _ (fs : List Field) (labels : List (Bor (List ℕ))) (every : Bool) (keys : AreKeysOf fs labels every) where
    pub by_mark : every ≡ true → every ≡ allowed fs
    by_mark e = e ∙ sym (by_mark_or_label fs ∙ ap (λ b. b || list_any (bytes_eq k) (map (λ (f : Field). f.label.now) fs)) (sym keys.all ∙ e))

    of_labels : every ≡ false → list_any (bytes_eq k) (map text_of labels) ≡ allowed fs
    of_labels e =
        sym (list_any-IsPermutation (bytes_eq k) (map (λ (f : Field). f.label.now) fs) (map text_of labels) keys.same)
        ∙ sym (by_mark_or_label fs ∙ ap (λ b. b || list_any (bytes_eq k) (map (λ (f : Field). f.label.now) fs)) (sym keys.all ∙ e))

    pub by_label : (ts : List (Bor (List ℕ))) (r : Result ℕ ℕ) → every ≡ false → ts ≡ labels → IsSearchInRange r (length ts) → IsBinarySearchResult (λ t. slice_cmp nat_cmp (text_of t) k) ts r → is_ok r ≡ allowed fs
    by_label ts r e same within found =
        told nat_list_cmp_total text_of k ts r (subst (IsSorted (λ a b. slice_cmp nat_cmp (text_of a) (text_of b))) (sym same) keys.order) within found ∙ by_order ts ∙ ap (λ xs. list_any (bytes_eq k) (map text_of xs)) same
        ∙ of_labels e

    pub by_place : (i : ℕ) (d : Bor (List ℕ)) → every ≡ false → i < length labels → bytes_eq k (get_or labels i d).now ≡ true → true ≡ allowed fs
    by_place i d e within here = sym (list_any_at (λ t. bytes_eq k (text_of t)) labels i d within here) ∙ by_text labels ∙ of_labels e
