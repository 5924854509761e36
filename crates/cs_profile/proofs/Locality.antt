-- What a schema asks rests on its parts alone.
use Rattle.std.proofs.Common.{◌≡◌, ℕ, Bool, true, false, not, ◌&&◌, ◌||◌, List, [], ◌∷◌, Option, Some, None, refl, ap, ap₂, drop, if◌then◌else◌}
use Rattle.std.specs.Prelude.{option_to_list}
use Rattle.std.specs.Option.{option_map_or}
use Rattle.std.specs.Str.{bytes_eq}
use Rattle.std.specs.List.{list_all, flat_map, AllByRecursion as Each}
use Rattle.cs_document.specs.Document.{Document, Entry, under}
use Rattle.cs_document.specs.Opened.{Opened, a_list, an_object}
use Rattle.cs_document.proofs.Each.{each_map, each_drop, each_front, each_back, all_same, any_same}
use Rattle.cs_document.proofs.Children.{values, within}
use Rattle.cs_profile.specs.Constraint.{Assertion, valid_by, at_keys, at_other_keys, in_front, behind, valid_by_all, valid_by_any, not_valid_by, Constraint, always, never, conjunction}
use Rattle.cs_profile.specs.Validity.{if_array, if_object, if_there, front_holds, holds, is_satisfied}

module _ {H I : Type 0} where
  -- what an assertion asks of the document itself, and of the documents inside
  abbrev pub here_of : Assertion H I → List H
  here_of (valid_by s) = option_to_list s
  here_of (valid_by_all ss) = ss
  here_of (valid_by_any ss) = ss
  here_of (not_valid_by s) = s ∷ []
  here_of _ = []

  abbrev pub inside_of : Assertion H I → List I
  inside_of (at_keys ps) = values ps
  inside_of (at_other_keys ks s) = s ∷ []
  inside_of (in_front ss) = ss
  inside_of (behind n s) = s ∷ []
  inside_of _ = []

  -- the same of a schema
  abbrev pub here_parts : Constraint H I → List H
  here_parts (conjunction claims) = flat_map here_of claims
  here_parts _ = []

  abbrev pub inside_parts : Constraint H I → List I
  inside_parts (conjunction claims) = flat_map inside_of claims
  inside_parts _ = []

module _ {A H I : Type 0} (here here' : H → Bool) (inside inside' : A → I → Bool) where
  abbrev SameAt : List I → A → Type 0
  SameAt ss y = Each (λ s. inside y s ≡ inside' y s) ss

  abbrev Same : I → A → Type 0
  Same s y = inside y s ≡ inside' y s

  there_same : (s : I) (k : List ℕ) (ms : List (Entry A)) → Each (Same s) (values ms) → if_there (λ y. inside y s) (under k ms) ≡ if_there (λ y. inside' y s) (under k ms)
  there_same s k [] h = refl
  there_same s k (m ∷ ms) h =
      elim (bytes_eq k m.0) as (λ b. if_there (λ y. inside y s) (if b then Some m.1 else under k ms) ≡ if_there (λ y. inside' y s) (if b then Some m.1 else under k ms)) [
        | true ↦ h.0
        | false ↦ there_same s k ms h.1
      ]

  keys_same : (ps : List (Entry I)) (ms : List (Entry A)) → Each (SameAt (values ps)) (values ms) → list_all (λ p. if_there (λ y. inside y p.1) (under p.0 ms)) ps ≡ list_all (λ p. if_there (λ y. inside' y p.1) (under p.0 ms)) ps
  keys_same [] ms h = refl
  keys_same (p ∷ ps) ms h =
      ap₂ ◌&&◌ (there_same p.1 p.0 ms (each_map _ _ (λ y s. s.0) (values ms) h)) (keys_same ps ms (each_map _ _ (λ y s. s.1) (values ms) h))

  front_same : (ss : List I) (ys : List A) → Each (SameAt ss) ys → front_holds here inside ss ys ≡ front_holds here' inside' ss ys
  front_same [] ys h = refl
  front_same (s ∷ ss) [] h = refl
  front_same (s ∷ ss) (y ∷ ys) h = ap₂ ◌&&◌ h.0.0 (front_same ss ys (each_map _ _ (λ y s. s.1) ys h.1))

  other_same : (s : I) (t : Entry A → Bool) (ms : List (Entry A)) → Each (Same s) (values ms) → list_all (λ m. t m || inside m.1 s) ms ≡ list_all (λ m. t m || inside' m.1 s) ms
  other_same s t [] h = refl
  other_same s t (m ∷ ms) h = ap₂ ◌&&◌ (ap (λ b. t m || b) h.0) (other_same s t ms h.1)

  array_same : (f g : List A → Bool) (x : Opened A) (Q : A → Type 0) → ((ys : List A) → Each Q ys → f ys ≡ g ys) → Each Q (within x) → if_array f x ≡ if_array g x
  array_same f g (a_list ys) Q h w = h ys w
  array_same f g _ Q h w = refl

  object_same : (f g : List (Entry A) → Bool) (x : Opened A) (Q : A → Type 0) → ((ms : List (Entry A)) → Each Q (values ms) → f ms ≡ g ms) → Each Q (within x) → if_object f x ≡ if_object g x
  object_same f g (an_object ms) Q h w = h ms w
  object_same f g _ Q h w = refl

  named_same : (o : Option H) → Each (λ p. here p ≡ here' p) (option_to_list o) → option_map_or here o false ≡ option_map_or here' o false
  named_same None h = refl
  named_same (Some s) h = h.0

  holds_same : (a : Assertion H I) (d : Document) (x : Opened A) → Each (λ p. here p ≡ here' p) (here_of a) → Each (SameAt (inside_of a)) (within x) → holds here inside a d x ≡ holds here' inside' a d x
  holds_same (valid_by o) d x h w = named_same o h
  holds_same (at_keys ps) d x h w = object_same _ _ x (SameAt (values ps)) (keys_same ps) w
  holds_same (at_other_keys ks s) d x h w =
      object_same _ _ x (SameAt (s ∷ [])) (λ ms q. other_same s _ ms (each_map _ _ (λ y s. s.0) (values ms) q)) w
  holds_same (in_front ss) d x h w = array_same _ _ x (SameAt ss) (front_same ss) w
  holds_same (behind n s) d x h w =
      array_same _ _ x (SameAt (s ∷ [])) (λ ys q. all_same _ _ (drop n ys) (each_drop _ n ys (each_map _ _ (λ y s. s.0) ys q))) w
  holds_same (valid_by_all ss) d x h w = all_same here here' ss h
  holds_same (valid_by_any ss) d x h w = any_same here here' ss h
  holds_same (not_valid_by s) d x h w = ap not h.0
  holds_same _ d x h w = refl

  claims_same : (claims : List (Assertion H I)) (d : Document) (x : Opened A) → Each (λ p. here p ≡ here' p) (flat_map here_of claims) → Each (SameAt (flat_map inside_of claims)) (within x)
      → list_all (λ a. holds here inside a d x) claims ≡ list_all (λ a. holds here' inside' a d x) claims
  claims_same [] d x h w = refl
  claims_same (a ∷ claims) d x h w =
      ap₂ ◌&&◌ (holds_same a d x (each_front _ (here_of a) _ h) (each_map _ _ (λ y s. each_front _ (inside_of a) _ s) (within x) w))
      (claims_same claims d x (each_back _ (here_of a) _ h) (each_map _ _ (λ y s. each_back _ (inside_of a) _ s) (within x) w))

  pub satisfied_same : (a : Constraint H I) (d : Document) (x : Opened A) → Each (λ p. here p ≡ here' p) (here_parts a) → Each (SameAt (inside_parts a)) (within x) → is_satisfied here inside a d x ≡ is_satisfied here' inside' a d x
  satisfied_same always d x h w = refl
  satisfied_same never d x h w = refl
  satisfied_same (conjunction claims) d x h w = claims_same claims d x h w
