-- Texts that were seen, as a set.
use Rattle.std.proofs.Common.{◌≡◌, ℕ, Bool, true, false, List, [], ◌∷◌, ◌++◌, Bor, not, ◌||◌, ◌&&◌, cond, nat_cmp, bytes_eq, refl, sym, ap, ap₂, ◌∙◌}
use Rattle.std.specs.BTreeSet.{BTreeSet, contains, Updates}
use Rattle.std.specs.Cmp.Lexicographic.{slice_cmp}
use Rattle.std.specs.List.{list_any}
use Rattle.std.proofs.lemmas.Map.Text.{is_eq-slice_cmp}
use Rattle.std.proofs.lemmas.Slice.Eq.{bytes_eq-Decides}
use Rattle.cs_document.specs.Document.{Document, null, boolean, integer, text, list, object, Documents, document}
use Rattle.cs_profile.specs.Shapes.{has_form, are_distinct_texts}
use Rattle.cs_profile.specs.declared.keyword.Form.TheVariants as form

-- whether a set has a text
abbrev pub has : BTreeSet (Bor (List ℕ)) → Bor (List ℕ) → Bool
has s t = contains (λ x y. slice_cmp nat_cmp x.now y.now) s t

any_of_one : (b : Bool) → (b || false) ≡ cond b true false
any_of_one true = refl
any_of_one false = refl

turned : (a b c : Bool) → (a || cond b true c) ≡ cond b true (a || c)
turned true true c = refl
turned true false c = refl
turned false b c = refl

any_last : (p : List ℕ → Bool) (ts : List (List ℕ)) (t : List ℕ) → list_any p (ts ++ t ∷ []) ≡ cond (p t) true (list_any p ts)
any_last p [] t = any_of_one (p t)
any_last p (u ∷ ts) t = ap (λ b. p u || b) (any_last p ts t) ∙ turned (p u) (p t) (list_any p ts)

either_way : (a b : List ℕ) → bytes_eq a b ≡ bytes_eq b a
either_way a b = by_tests (bytes_eq a b) (bytes_eq b a) refl refl
  where
    by_tests : (s t : Bool) → bytes_eq a b ≡ s → bytes_eq b a ≡ t → s ≡ t
    by_tests true true e f = refl
    by_tests false false e f = refl
    by_tests true false e f =
        let same : bytes_eq b a ≡ true = (bytes_eq-Decides b a).1 (sym ((bytes_eq-Decides a b).0 e)) in sym same ∙ f
    by_tests false true e f =
        let same : bytes_eq a b ≡ true = (bytes_eq-Decides a b).1 (sym ((bytes_eq-Decides b a).0 f)) in sym e ∙ same

-- one more is seen
pub has_more : (s n : BTreeSet (Bor (List ℕ))) (ts : List (List ℕ)) (t : Bor (List ℕ)) → Updates (λ x y. slice_cmp nat_cmp x.now y.now) s n t true
    → ((u : Bor (List ℕ)) → has s u ≡ list_any (bytes_eq u.now) ts) → (u : Bor (List ℕ)) → has n u ≡ list_any (bytes_eq u.now) (ts ++ t.now ∷ [])
has_more s n ts t h known u =
    h.0 u ∙ ap₂ (λ b o. cond b true o) (is_eq-slice_cmp t.now u.now ∙ either_way t.now u.now) (known u) ∙ sym (any_last (bytes_eq u.now) ts t.now)

-- a text that was not seen, one that was, and what is no text
pub one_more : (seen : List (List ℕ)) (t : List ℕ) (d : Document) (ds : Documents) → d ≡ text t → list_any (bytes_eq t) seen ≡ false → are_distinct_texts seen (document d ds) ≡ are_distinct_texts (seen ++ t ∷ []) ds
one_more seen t d ds is h = ap (λ e. are_distinct_texts seen (document e ds)) is ∙ ap (λ b. not b && are_distinct_texts (seen ++ t ∷ []) ds) h

pub twice : (seen : List (List ℕ)) (t : List ℕ) (d : Document) (ds : Documents) → d ≡ text t → list_any (bytes_eq t) seen ≡ true → are_distinct_texts seen (document d ds) ≡ false
twice seen t d ds is h = ap (λ e. are_distinct_texts seen (document e ds)) is ∙ ap (λ b. not b && are_distinct_texts (seen ++ t ∷ []) ds) h

pub no_text : (seen : List (List ℕ)) (d : Document) (ds : Documents) → has_form form.Text d ≡ false → are_distinct_texts seen (document d ds) ≡ false
no_text seen null ds h = refl
no_text seen (boolean b) ds h = refl
no_text seen (integer z) ds h = refl
no_text seen (text s) ds h = cc
no_text seen (list es) ds h = refl
no_text seen (object ms) ds h = refl
