-- What is asked by schemas and of documents that are named in another way, and without what asserts nothing.
use Rattle.std.proofs.Common.{◌≡◌, ℕ, ℤ, int_le, int_lt, Bool, true, false, ◌&&◌, ◌||◌, List, [], ◌∷◌, Option, Some, None, map, drop, option_map, if◌then◌else◌, refl, ap, ap₂, ◌∙◌}
use Rattle.std.specs.Prelude.{is_some, nat_le}
use Rattle.std.specs.Option.{option_map_or}
use Rattle.std.specs.List.{list_all, list_any, flat_map}
use Rattle.std.specs.Str.{bytes_eq}
use Rattle.std.proofs.Math.Bool.{and-true}
use Rattle.std.proofs.lemmas.List.{length-map, drop-map}
use Rattle.std.proofs.lemmas.List.Folds.{list_all-map, list_all-append}
use Rattle.cs_document.specs.Document.{Document, Entry, under}
use Rattle.cs_document.specs.Opened.{Opened, a_null, a_boolean, an_integer, a_text, a_list, an_object}
use Rattle.cs_document.specs.Inside.{map_entry, map_opened}
use Rattle.cs_document.specs.Sizes.{Counted, Characters, Elements, Keys, size_of}
use Rattle.cs_profile.specs.Keywords.{Kind, Null, Boolean, Object, Array, Number, String, Integer}
use Rattle.cs_profile.specs.Constraint.{Assertion, nothing, valid_by, has_kind, at_least, at_most, above, below, has_keys, at_keys, at_other_keys, in_front, behind, at_least_long, at_most_long, valid_by_all, valid_by_any, Constraint, always, never, conjunction}
use Rattle.cs_profile.specs.Validity.{is_of_kind, if_number, if_array, if_object, if_there, front_holds, holds, is_satisfied}
use Rattle.cs_validate.specs.Numbering.{map_assertion, map_constraint, asserted, said}

any_of_map : {X Y : Type 0} (p : Y → Bool) (f : X → Y) (xs : List X) → list_any p (map f xs) ≡ list_any (λ x. p (f x)) xs
any_of_map p f [] = refl
any_of_map p f (x ∷ xs) = ap (λ b. p (f x) || b) (any_of_map p f xs)

-- ---- what asserts nothing

module _ {A H I : Type 0} (here : H → Bool) (inside : A → I → Bool) (d : Document) (x : Opened A) where
  asserted_same : (a : Assertion H I) → list_all (λ b. holds here inside b d x) (asserted a) ≡ (holds here inside a d x && true)
  asserted_same nothing = refl
  asserted_same _ = refl

  claims_said : (claims : List (Assertion H I)) → list_all (λ b. holds here inside b d x) (flat_map asserted claims) ≡ list_all (λ b. holds here inside b d x) claims
  claims_said [] = refl
  claims_said (a ∷ claims) =
      list_all-append (λ b. holds here inside b d x) (asserted a) (flat_map asserted claims)
      ∙ ap₂ ◌&&◌ (asserted_same a ∙ and-true (holds here inside a d x)) (claims_said claims)

  -- a constraint asks what it says
  pub as_said : (c : Constraint H I) → is_satisfied here inside (said c) d x ≡ is_satisfied here inside c d x
  as_said always = refl
  as_said never = refl
  as_said (conjunction claims) = claims_said claims

-- ---- schemas

module _ {A H I J K : Type 0} (f : H → J) (g : I → K) (here : J → Bool) (inside : A → K → Bool) where
  option_named : (o : Option H) → option_map_or here (option_map f o) false ≡ option_map_or (λ p. here (f p)) o false
  option_named None = refl
  option_named (Some p) = refl

  keys_named : (ps : List (Entry I)) (ms : List (Entry A)) → list_all (λ (p : Entry K). if_there (λ y. inside y p.1) (under p.0 ms)) (map (map_entry g) ps) ≡ list_all (λ (p : Entry I). if_there (λ y. inside y (g p.1)) (under p.0 ms)) ps
  keys_named ps ms = list_all-map (λ (p : Entry K). if_there (λ y. inside y p.1) (under p.0 ms)) (map_entry g) ps

  front_named : (ss : List I) (ys : List A) → front_holds here inside (map g ss) ys ≡ front_holds (λ p. here (f p)) (λ y s. inside y (g s)) ss ys
  front_named [] ys = refl
  front_named (s ∷ ss) [] = refl
  front_named (s ∷ ss) (y ∷ ys) = ap (λ b. inside y (g s) && b) (front_named ss ys)

  claim_named : (a : Assertion H I) (d : Document) (x : Opened A) → holds here inside (map_assertion f g a) d x ≡ holds (λ p. here (f p)) (λ y s. inside y (g s)) a d x
  claim_named (valid_by o) d x = option_named o
  claim_named (valid_by_all ss) d x = list_all-map here f ss
  claim_named (valid_by_any ss) d x = any_of_map here f ss
  claim_named (at_keys ps) d (an_object ms) = keys_named ps ms
  claim_named (in_front ss) d (a_list ys) = front_named ss ys
  claim_named (at_keys ps) d _ = refl
  claim_named (in_front ss) d _ = refl
  claim_named _ d x = refl

  claims_named : (claims : List (Assertion H I)) (d : Document) (x : Opened A)
      → list_all (λ a. holds here inside a d x) (map (map_assertion f g) claims) ≡ list_all (λ a. holds (λ p. here (f p)) (λ y s. inside y (g s)) a d x) claims
  claims_named [] d x = refl
  claims_named (a ∷ claims) d x = ap₂ ◌&&◌ (claim_named a d x) (claims_named claims d x)

  pub named : (c : Constraint H I) (d : Document) (x : Opened A) → is_satisfied here inside (map_constraint f g c) d x ≡ is_satisfied (λ p. here (f p)) (λ y s. inside y (g s)) c d x
  named always d x = refl
  named never d x = refl
  named (conjunction claims) d x = claims_named claims d x

-- ---- documents

module _ {A B : Type 0} (f : A → B) where
  pub kind_at : (k : Kind) (x : Opened A) → is_of_kind k (map_opened f x) ≡ is_of_kind k x
  kind_at Null a_null = refl
  kind_at Boolean (a_boolean b) = refl
  kind_at Object (an_object ms) = refl
  kind_at Array (a_list ys) = refl
  kind_at Number (an_integer n) = refl
  kind_at String (a_text s) = refl
  kind_at Integer (an_integer n) = refl
  kind_at _ _ = refl

module _ {A B H I : Type 0} (f : A → B) (here : H → Bool) (inside : B → I → Bool) where
  under_at : (p : B → Bool) (k : List ℕ) (ms : List (Entry A)) → if_there p (under k (map (map_entry f) ms)) ≡ if_there (λ y. p (f y)) (under k ms)
  under_at p k [] = refl
  under_at p k (m ∷ ms) =
      elim (bytes_eq k m.0) as (λ t. if_there p (if t then Some (f m.1) else under k (map (map_entry f) ms)) ≡ if_there (λ y. p (f y)) (if t then Some m.1 else under k ms)) [ true ↦ refl | false ↦ under_at p k ms ]

  there_at : (k : List ℕ) (ms : List (Entry A)) → is_some (under k (map (map_entry f) ms)) ≡ is_some (under k ms)
  there_at k [] = refl
  there_at k (m ∷ ms) =
      elim (bytes_eq k m.0) as (λ t. is_some (if t then Some (f m.1) else under k (map (map_entry f) ms)) ≡ is_some (if t then Some m.1 else under k ms)) [ true ↦ refl | false ↦ there_at k ms ]

  names_at : (ks : List (List ℕ)) (ms : List (Entry A)) → list_all (λ k. is_some (under k (map (map_entry f) ms))) ks ≡ list_all (λ k. is_some (under k ms)) ks
  names_at [] ms = refl
  names_at (k ∷ ks) ms = ap₂ ◌&&◌ (there_at k ms) (names_at ks ms)

  keys_at : (ps : List (Entry I)) (ms : List (Entry A)) → list_all (λ (p : Entry I). if_there (λ y. inside y p.1) (under p.0 (map (map_entry f) ms))) ps ≡ list_all (λ (p : Entry I). if_there (λ y. inside (f y) p.1) (under p.0 ms)) ps
  keys_at [] ms = refl
  keys_at (p ∷ ps) ms = ap₂ ◌&&◌ (under_at (λ y. inside y p.1) p.0 ms) (keys_at ps ms)

  front_at : (ss : List I) (ys : List A) → front_holds here inside ss (map f ys) ≡ front_holds here (λ y s. inside (f y) s) ss ys
  front_at [] ys = refl
  front_at (s ∷ ss) [] = refl
  front_at (s ∷ ss) (y ∷ ys) = ap (λ b. inside (f y) s && b) (front_at ss ys)

  rest_at : (n : ℕ) (s : I) (ys : List A) → list_all (λ y. inside y s) (drop n (map f ys)) ≡ list_all (λ y. inside (f y) s) (drop n ys)
  rest_at n s ys = ap (list_all (λ y. inside y s)) (drop-map f n ys) ∙ list_all-map (λ y. inside y s) f (drop n ys)

  number_at : (p : ℤ → Bool) (x : Opened A) → if_number p (map_opened f x) ≡ if_number p x
  number_at p (an_integer n) = refl
  number_at p _ = refl

  array_at : (p : List B → Bool) (q : List A → Bool) → ((ys : List A) → p (map f ys) ≡ q ys) → (x : Opened A) → if_array p (map_opened f x) ≡ if_array q x
  array_at p q h (a_list ys) = h ys
  array_at p q h _ = refl

  object_at : (p : List (Entry B) → Bool) (q : List (Entry A) → Bool) → ((ms : List (Entry A)) → p (map (map_entry f) ms) ≡ q ms) → (x : Opened A) → if_object p (map_opened f x) ≡ if_object q x
  object_at p q h (an_object ms) = h ms
  object_at p q h _ = refl

  size_at : (c : Counted) (x : Opened A) → size_of c (map_opened f x) ≡ size_of c x
  size_at Characters (a_text s) = refl
  size_at Elements (a_list ys) = ap Some (length-map ys f)
  size_at Keys (an_object ms) = ap Some (length-map ms (map_entry f))
  size_at _ _ = refl

  claim_at : (a : Assertion H I) (d : Document) (x : Opened A) → holds here inside a d (map_opened f x) ≡ holds here (λ y s. inside (f y) s) a d x
  claim_at (has_kind k) d x = kind_at f k x
  claim_at (at_least l) d x = number_at (λ n. int_le l n) x
  claim_at (at_most l) d x = number_at (λ n. int_le n l) x
  claim_at (above l) d x = number_at (λ n. int_lt l n) x
  claim_at (below l) d x = number_at (λ n. int_lt n l) x
  claim_at (has_keys ks) d x = object_at _ _ (names_at ks) x
  claim_at (at_keys ps) d x = object_at _ _ (keys_at ps) x
  claim_at (at_other_keys ks s) d x = object_at _ _ (λ ms. list_all-map (λ (m : Entry B). list_any (bytes_eq m.0) ks || inside m.1 s) (map_entry f) ms) x
  claim_at (in_front ss) d x = array_at _ _ (front_at ss) x
  claim_at (behind n s) d x = array_at _ _ (rest_at n s) x
  claim_at (at_least_long c n) d x = ap (if_there (λ k. nat_le n k)) (size_at c x)
  claim_at (at_most_long c n) d x = ap (if_there (λ k. nat_le k n)) (size_at c x)
  claim_at _ d x = refl

  claims_at : (claims : List (Assertion H I)) (d : Document) (x : Opened A) → list_all (λ a. holds here inside a d (map_opened f x)) claims ≡ list_all (λ a. holds here (λ y s. inside (f y) s) a d x) claims
  claims_at [] d x = refl
  claims_at (a ∷ claims) d x = ap₂ ◌&&◌ (claim_at a d x) (claims_at claims d x)

  pub at_documents : (c : Constraint H I) (d : Document) (x : Opened A) → is_satisfied here inside c d (map_opened f x) ≡ is_satisfied here (λ y s. inside (f y) s) c d x
  at_documents always d x = refl
  at_documents never d x = refl
  at_documents (conjunction claims) d x = claims_at claims d x
