-- Which documents a schema validates (JSON Schema Core 2020-12, sections 4.3.2, 7, 8.2.3.1 and 10;
-- Validation 2020-12, section 6).
use Rattle.std.specs.Prelude.{◌≡◌, ℤ, List, ◌∷◌, drop, Bool, true, false, not, ◌&&◌, ◌||◌, Option, is_some, nat_le, int_le, int_lt}
use Rattle.std.specs.Option.{option_map_or}
use Rattle.std.specs.Str.{bytes_eq}
use Rattle.std.specs.List.{list_all, list_any}
use Rattle.cs_document.specs.Document.{Document, Entry, under, document_eq}
use Rattle.cs_document.specs.Opened.{Opened, a_null, a_boolean, an_integer, a_text, a_list, an_object, opened}
use Rattle.cs_document.specs.Sizes.{size_of}
use Rattle.cs_profile.specs.Keywords.{Kind, Null, Boolean, Object, Array, Number, String, Integer}
use Rattle.cs_profile.specs.Constraint.{Assertion, nothing, valid_by, has_kind, equals, is_among, at_least, at_most, above, below, has_keys, at_keys, at_other_keys, in_front, behind, at_least_long, at_most_long, valid_by_all, valid_by_any, not_valid_by, Constraint, always, never, conjunction, constraint_of}

module _ {A : Type 0} where
  -- whether a document has a kind; an integer is a number too
  abbrev pub is_of_kind : Kind → Opened A → Bool
  is_of_kind Null a_null = true
  is_of_kind Boolean (a_boolean b) = true
  is_of_kind Object (an_object ms) = true
  is_of_kind Array (a_list ds) = true
  is_of_kind Number (an_integer n) = true
  is_of_kind String (a_text s) = true
  is_of_kind Integer (an_integer n) = true
  is_of_kind _ _ = false

  -- an assertion on documents of one kind holds of the others
  abbrev pub if_number : (ℤ → Bool) → Opened A → Bool
  if_number p (an_integer n) = p n
  if_number p _ = true

  abbrev pub if_array : (List A → Bool) → Opened A → Bool
  if_array p (a_list ys) = p ys
  if_array p _ = true

  abbrev pub if_object : (List (Entry A) → Bool) → Opened A → Bool
  if_object p (an_object ms) = p ms
  if_object p _ = true

-- what is under a key, if it is there, passes a test
abbrev pub if_there : {A : Type 0} → (A → Bool) → Option A → Bool
if_there p o = option_map_or p o true

-- `here s` says whether the schema s validates the document, and `inside y s` whether it validates y, which
-- is directly inside the document
module _ {A H I : Type 0} (here : H → Bool) (inside : A → I → Bool) where
  -- each element that has a schema at its place is valid by it
  abbrev pub front_holds : List I → List A → Bool
  front_holds (s ∷ ss) (y ∷ ys) = inside y s && front_holds ss ys
  front_holds _ _ = true

  -- whether an assertion holds of the document d, which opened once is x
  abbrev pub holds : Assertion H I → Document → Opened A → Bool
  holds nothing d x = true
  holds (valid_by s) d x = option_map_or here s false
  holds (has_kind k) d x = is_of_kind k x
  holds (equals v) d x = document_eq v d
  holds (is_among vs) d x = list_any (λ v. document_eq v d) vs
  holds (at_least l) d x = if_number (λ n. int_le l n) x
  holds (at_most l) d x = if_number (λ n. int_le n l) x
  holds (above l) d x = if_number (λ n. int_lt l n) x
  holds (below l) d x = if_number (λ n. int_lt n l) x
  holds (has_keys ks) d x = if_object (λ ms. list_all (λ k. is_some (under k ms)) ks) x
  holds (at_keys ps) d x = if_object (λ ms. list_all (λ p. if_there (λ y. inside y p.1) (under p.0 ms)) ps) x
  holds (at_other_keys ks s) d x = if_object (λ ms. list_all (λ m. list_any (bytes_eq m.0) ks || inside m.1 s) ms) x
  holds (in_front ss) d x = if_array (front_holds ss) x
  holds (behind n s) d x = if_array (λ ys. list_all (λ y. inside y s) (drop n ys)) x
  holds (at_least_long c n) d x = if_there (λ k. nat_le n k) (size_of c x)
  holds (at_most_long c n) d x = if_there (λ k. nat_le k n) (size_of c x)
  holds (valid_by_all ss) d x = list_all here ss
  holds (valid_by_any ss) d x = list_any here ss
  holds (not_valid_by s) d x = not (here s)

  -- whether the constraint of a schema is satisfied
  abbrev pub is_satisfied : Constraint H I → Document → Opened A → Bool
  is_satisfied always d x = true
  is_satisfied never d x = false
  is_satisfied (conjunction claims) d x = list_all (λ a. holds a d x) claims

-- V is the validity of the schemas of the root R: V s x says whether the schema s validates the document x
abbrev pub IsValidity : Document → (Document → Document → Bool) → Type 0
IsValidity R V = (s x : Document) → V s x ≡ is_satisfied (λ p. V p x) (λ y p. V p y) (constraint_of R s) x (opened x)

-- there is a validity of the schemas of R, and only one
pub record OneMeaning (R : Document) : Type 0 where
  pub some : (V : Document → Document → Bool) × IsValidity R V
  pub only : (V W : Document → Document → Bool) → IsValidity R V → IsValidity R W → (s x : Document) → V s x ≡ W s x
