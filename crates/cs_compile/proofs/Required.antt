-- The labels of `required` are distinct.
use Rattle.std.proofs.Common.{◌≡◌, ℕ, zero, suc, List, [], ◌∷◌, ◌++◌, map, filter, Bool, true, false, not, ◌&&◌, ◌||◌, refl, ap, ap₂, ◌∙◌, bytes_eq, arith}
use Rattle.std.specs.List.{list_any, All, AllPairs}
use Rattle.std.proofs.lemmas.Bool.{not-true}
use Rattle.std.proofs.lemmas.List.Elements.{filter_passes}
use Rattle.std.proofs.lemmas.List.Kept.{AllPairs-cons, AllPairs-filter}
use Rattle.std.proofs.lemmas.List.Folds.{list_any-append}
use Rattle.cs_document.specs.Document.{Document, text}
use Rattle.cs_document.specs.View.{documents_of}
use Rattle.cs_package.specs.Expression.{Declaration}
use Rattle.cs_package.proofs.Environments.{bytes_eq-sym}
use Rattle.cs_profile.specs.Shapes.{are_distinct_texts}
use Rattle.cs_compile.specs.Translation.{firsts, labels_of, required_of}

abbrev Differs : List ℕ → List ℕ → Type 0
Differs l m = bytes_eq l m ≡ false

firsts-differ : (ls : List (List ℕ)) → AllPairs Differs (firsts bytes_eq ls)
firsts-differ [] = λ i j d lt within. absurd (omega arith)
firsts-differ (l ∷ ls) =
    let other : List ℕ → Bool = λ m. not (bytes_eq l m) in
    AllPairs-cons Differs l (filter other (firsts bytes_eq ls)) (λ k d within. not-true (bytes_eq l _) (filter_passes other (firsts bytes_eq ls) k d within)) (AllPairs-filter Differs other (firsts bytes_eq ls) (firsts-differ ls))

-- texts that differ from one another and from those before them
texts-distinct : (seen ls : List (List ℕ)) → All (λ m. list_any (bytes_eq m) seen ≡ false) ls → AllPairs Differs ls → are_distinct_texts seen (documents_of (map text ls)) ≡ true
texts-distinct seen [] new h = refl
texts-distinct seen (l ∷ ls) new h =
    ap (λ b. not b && are_distinct_texts (seen ++ l ∷ []) (documents_of (map text ls))) (new zero l (omega arith))
    ∙ texts-distinct (seen ++ l ∷ []) ls (λ k d within. later _ (new (suc k) d (omega arith)) (h zero (suc k) d (omega arith) (omega arith))) (λ i j d lt within. h (suc i) (suc j) d (omega arith) (omega arith))
  where
    later : (m : List ℕ) → list_any (bytes_eq m) seen ≡ false → Differs l m → list_any (bytes_eq m) (seen ++ l ∷ []) ≡ false
    later m old apart = list_any-append (bytes_eq m) seen (l ∷ []) ∙ ap₂ (λ a b. a || (b || false)) old (bytes_eq-sym m l ∙ apart)

pub required_of-distinct : (ds : List (Declaration Document)) → are_distinct_texts [] (documents_of (map text (required_of ds))) ≡ true
required_of-distinct ds = texts-distinct [] (required_of ds) (λ k d within. refl) (AllPairs-filter Differs _ (firsts bytes_eq (labels_of ds)) (firsts-differ (labels_of ds)))
