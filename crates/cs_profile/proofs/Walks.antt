-- The first answer over lists that follow one another.
use Rattle.std.proofs.Common.{◌≡◌, List, [], ◌∷◌, ◌++◌, Option, Some, None, refl, ap, ◌∙◌}
use Rattle.cs_profile.specs.Profile.{first, or_else}

or_else-assoc : {A : Type 0} (a b c : Option A) → or_else a (or_else b c) ≡ or_else (or_else a b) c
or_else-assoc None b c = refl
or_else-assoc (Some x) b c = refl

pub first-append : {A B : Type 0} (f : A → Option B) (xs ys : List A) → first f (xs ++ ys) ≡ or_else (first f xs) (first f ys)
first-append f [] ys = refl
first-append f (x ∷ xs) ys = ap (or_else (f x)) (first-append f xs ys) ∙ or_else-assoc (f x) (first f xs) (first f ys)

-- past a part without fault, and at a part with one
pub first_past : {A B : Type 0} (f : A → Option B) (xs ys : List A) → first f xs ≡ None → first f (xs ++ ys) ≡ first f ys
first_past f xs ys h = first-append f xs ys ∙ ap (λ o. or_else o (first f ys)) h

pub first_at : {A B : Type 0} (f : A → Option B) (xs ys : List A) (b : B) → first f xs ≡ Some b → first f (xs ++ ys) ≡ Some b
first_at f xs ys b h = first-append f xs ys ∙ ap (λ o. or_else o (first f ys)) h
