-- The declarations of every key beside those of a label.
use Rattle.std.proofs.Common.{◌≡◌, ℕ, List, [], ◌∷◌, ◌++◌, map, filter, Bool, true, false, not, ◌&&◌, ◌||◌, is_some, bytes_eq, refl, sym, ap, ◌∙◌, append-nil, if◌then◌else◌}
use Rattle.std.specs.List.{list_all, list_any}
use Rattle.std.proofs.lemmas.List.Elements.{filter-append}
use Rattle.cs_document.specs.Document.{Document}
use Rattle.cs_package.specs.Expression.{Declaration, DeclarationMark, regular, optional, required, every, is_every}
use Rattle.cs_instance.specs.Constraint.{allows}
use Rattle.cs_profile.specs.SchemaDocument.{unless_no_list}
use Rattle.cs_compile.specs.Grouped.{for_every_key, is_asked}
use Rattle.cs_compile.specs.Translation.{labelled, must_be_there, under_every_key}

-- ---- one declaration more

filtered-more : {X : Type 0} (p : X → Bool) (xs : List X) (x : X) → filter p (xs ++ x ∷ []) ≡ filter p xs ++ (if p x then x ∷ [] else [])
filtered-more p xs x = filter-append p xs (x ∷ [])

module _ (ds : List (Declaration Document)) (d : Declaration Document) where
  -- of a label
  pub labelled-more : is_every d.mark ≡ false → labelled (ds ++ d ∷ []) ≡ labelled ds ++ d ∷ []
  labelled-more e = filtered-more (λ c. not (is_every c.mark)) ds d ∙ ap (λ b. labelled ds ++ (if not b then d ∷ [] else [])) e

  -- of every key
  pub labelled-same : is_every d.mark ≡ true → labelled (ds ++ d ∷ []) ≡ labelled ds
  labelled-same e = filtered-more (λ c. not (is_every c.mark)) ds d ∙ ap (λ b. labelled ds ++ (if not b then d ∷ [] else [])) e ∙ append-nil _

-- ---- what they ask for, and what they allow

-- there is one where there is a schema of one
pub some_every : (ds : List (Declaration Document)) → is_some (unless_no_list (under_every_key ds)) ≡ list_any (λ d. is_every d.mark) ds
some_every [] = refl
some_every (d ∷ ds) = go (is_every d.mark) (some_every ds)
  where
    go : (b : Bool) → is_some (unless_no_list (under_every_key ds)) ≡ list_any (λ c. is_every c.mark) ds
        → is_some (unless_no_list (map (λ c. for_every_key c.value) (if b then d ∷ filter (λ c. is_every c.mark) ds else filter (λ c. is_every c.mark) ds))) ≡ (b || list_any (λ c. is_every c.mark) ds)
    go true h = refl
    go false h = h

-- a declaration of every key asks for no label
pub asked_labelled : (ds : List (Declaration Document)) (l : List ℕ) → is_asked (labelled ds) l ≡ is_asked ds l
asked_labelled [] l = refl
asked_labelled (d ∷ ds) l = go (is_every d.mark) refl (asked_labelled ds l)
  where
    asks_none : (m : DeclarationMark) → is_every m ≡ true → must_be_there m ≡ false
    asks_none every e = refl
    asks_none regular e = cc
    asks_none optional e = cc
    asks_none required e = cc

    none : (b r : Bool) → r ≡ ((b && false) || r)
    none true r = refl
    none false r = refl

    go : (b : Bool) → is_every d.mark ≡ b → is_asked (labelled ds) l ≡ is_asked ds l
        → list_any (λ c. bytes_eq l c.label && must_be_there c.mark) (if not b then d ∷ labelled ds else labelled ds) ≡ ((bytes_eq l d.label && must_be_there d.mark) || is_asked ds l)
    go true e h = h ∙ none (bytes_eq l d.label) (is_asked ds l) ∙ ap (λ m. (bytes_eq l d.label && m) || is_asked ds l) (sym (asks_none d.mark e))
    go false e h = ap (λ b. (bytes_eq l d.label && must_be_there d.mark) || b) h

-- a key is allowed where one is of every key, or of its label
pub allowed : (ds : List (Declaration Document)) (k : List ℕ) → list_any (λ d. allows d k) ds ≡ (list_any (λ d. is_every d.mark) ds || list_any (λ d. bytes_eq k d.label) (labelled ds))
allowed [] k = refl
allowed (d ∷ ds) k = go (is_every d.mark) (allowed ds k)
  where
    moved : (b e l : Bool) → (b || (e || l)) ≡ (e || (b || l))
    moved true true l = refl
    moved true false l = refl
    moved false e l = refl

    go : (b : Bool) → list_any (λ c. allows c k) ds ≡ (list_any (λ c. is_every c.mark) ds || list_any (λ c. bytes_eq k c.label) (labelled ds))
        → ((b || bytes_eq k d.label) || list_any (λ c. allows c k) ds) ≡ ((b || list_any (λ c. is_every c.mark) ds) || list_any (λ c. bytes_eq k c.label) (if not b then d ∷ labelled ds else labelled ds))
    go true h = refl
    go false h = ap (λ b. bytes_eq k d.label || b) h ∙ moved (bytes_eq k d.label) (list_any (λ c. is_every c.mark) ds) (list_any (λ c. bytes_eq k c.label) (labelled ds))

all_passed : {X : Type 0} (xs : List X) → list_all (λ x. true) xs ≡ true
all_passed [] = refl
all_passed (x ∷ xs) = all_passed xs

-- all keys are allowed, or those of the labels
pub one_open : {X : Type 0} (o a : Bool) (f : X → Bool) (xs : List X) → ((o || a) || list_all f xs) ≡ (o || list_all (λ x. a || f x) xs)
one_open true a f xs = refl
one_open false true f xs = sym (all_passed xs)
one_open false false f xs = refl
