-- Marks behind marks.
use Rattle.std.proofs.Common.{◌≡◌, ℕ, ℤ, List, [], ◌∷◌, ◌++◌, append_assoc, refl, ap, ◌∙◌}
use Rattle.cs_document.specs.Document.{Document, integer, text}
use Rattle.cs_profile.specs.Constraint.{texts_in}
use Rattle.cs_rules.specs.Alike.{Compared}
use Rattle.cs_validate.specs.Marked.{integers_in, AddsMarks, AddsScalars}

texts_append : (ds es : List Document) → texts_in (ds ++ es) ≡ texts_in ds ++ texts_in es
texts_append [] es = refl
texts_append (text t ∷ ds) es = ap (λ ts. t ∷ ts) (texts_append ds es)
texts_append (_ ∷ ds) es = texts_append ds es

integers_append : (ds es : List Document) → integers_in (ds ++ es) ≡ integers_in ds ++ integers_in es
integers_append [] es = refl
integers_append (integer z ∷ ds) es = ap (λ zs. z ∷ zs) (integers_append ds es)
integers_append (_ ∷ ds) es = integers_append ds es

behind_both : {X : Type 0} (xs ys zs : List X) {us vs : List X} → us ≡ xs ++ ys → vs ≡ us ++ zs → vs ≡ xs ++ (ys ++ zs)
behind_both xs ys zs e f = f ∙ ap (λ ws. ws ++ zs) e ∙ append_assoc xs ys zs

pub adds_both : (m n o : Compared) (ss ts : List (List ℕ)) (ys zs : List ℤ) (js ks : List ℕ) → AddsMarks ss ys js m n → AddsMarks ts zs ks n o → AddsMarks (ss ++ ts) (ys ++ zs) (js ++ ks) m o
adds_both m n o ss ts ys zs js ks h k = (behind_both m.texts ss ts h.0 k.0, behind_both m.integers ys zs h.1 k.1, behind_both m.lengths js ks h.2 k.2)

pub adds_scalars : (m n o : Compared) (ds es : List Document) → AddsScalars ds m n → AddsScalars es n o → AddsScalars (ds ++ es) m o
adds_scalars m n o ds es h k = rw (texts_append ds es, integers_append ds es) (adds_both m n o (texts_in ds) (texts_in es) (integers_in ds) (integers_in es) [] [] h k)
