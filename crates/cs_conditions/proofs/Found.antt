-- What is found, in an expression and in files, which are numbered.
use Rattle.std.proofs.Common.{◌≡◌, ℕ, ◌+◌, ◌<◌, ◌≤◌, List, [], ◌∷◌, ◌++◌, Some, Result, map, drop, length, get_or, slice_get, sym, ap, subst, ◌∙◌, add-one}
use Rattle.std.specs.List.{flat_map}
use Rattle.cs_grammar.specs.Tree.{Tree, body}
use Rattle.cs_grammar.specs.View.{definition_view, file_view}
use Rattle.cs_grammar.specs.declared.ast.File.{File}
use Rattle.cs_conditions.specs.Checks.{Finds, EndsAt}
use Rattle.cs_conditions.specs.Conditions.{found_from}
use Rattle.cs_conditions.specs.declared.flaws.Flaw.{Flaw}
use Rattle.cs_conditions.specs.declared.flaws.Stop.{Stop}
use Rattle.cs_conditions.specs.declared.flaws.Stop.TheVariants as stops
use Rattle.cs_conditions.proofs.Walks.{at_place, drop_all, first_left, first_here, none_left}

pub finds_as : {Y : Type 0} (r : Result Y Stop) (xs ys : List Flaw) → xs ≡ ys → Finds r ys → Finds r xs
finds_as r xs ys e h = subst (λ zs. Finds r zs) (sym e) h

-- the search ends in the first part
pub ends_left : (xs ys : List Flaw) (e : Stop) → EndsAt e xs → EndsAt e (xs ++ ys)
ends_left xs ys stops.OutOfMemory h = h
ends_left xs ys (stops.Flawed f) h = first_left xs ys f h

-- it ends at this element
pub ends_here : {A : Type 0} (F : List A → List Flaw) (own : A → List Flaw) (parts : (a : A) (rest : List A) → F (a ∷ rest) ≡ own a ++ F rest) (xs : List A) (i : ℕ) (a : A) → i < length xs → a ≡ get_or xs i a → F xs ≡ F (drop i xs) → (e : Stop) → EndsAt e (own a) → EndsAt e (F xs)
ends_here F own parts xs i a l is all stops.OutOfMemory h = h
ends_here F own parts xs i a l is all (stops.Flawed f) h = first_here F own parts xs i a l is all f h

module _ (found : Tree → List Flaw) where
  abbrev pub own_found : File → List Flaw
  own_found f = flat_map (λ d. found (body d)) (map definition_view f.definitions.items)

  abbrev pub in_file : ℕ → File → List (ℕ × Flaw)
  in_file i f = map (λ x. (i, x)) (own_found f)

  -- what is found from a file on
  abbrev pub from : ℕ → List File → List (ℕ × Flaw)
  from i fs = found_from found i (map file_view fs)

  first_numbered : (i : ℕ) (os : List Flaw) (o : Flaw) → slice_get os 0 ≡ Some o → slice_get {X = ℕ × Flaw} (map (λ p. (i, p)) os) 0 ≡ Some (i, o)
  first_numbered i [] o h = cc
  first_numbered i (p ∷ os) o h = cc

  module _ (fs : List File) (i : ℕ) (all : from 0 fs ≡ from i (drop i fs)) where
    module _ (f : File) (l : i < length fs) (is : f ≡ get_or fs i f) where
      cut : from 0 fs ≡ in_file i f ++ from (i + 1) (drop (i + 1) fs)
      cut =
          all ∙ ap (from i) (at_place fs i f l is)
          ∙ ap (λ j. in_file i f ++ from j (drop (i + 1) fs)) (sym (add-one i))

      pub first_in : (o : Flaw) → slice_get (own_found f) 0 ≡ Some o → slice_get (from 0 fs) 0 ≡ Some (i, o)
      first_in o h = rw cut (first_left (in_file i f) (from (i + 1) (drop (i + 1) fs)) (i, o) (first_numbered i (own_found f) o h))

      pub none_in : own_found f ≡ [] → from 0 fs ≡ from (i + 1) (drop (i + 1) fs)
      none_in none = cut ∙ none_left (in_file i f) (from (i + 1) (drop (i + 1) fs)) (ap (map {B = ℕ × Flaw} (λ x. (i, x))) none)

    -- no file has any
    pub none_in_any : length fs ≤ i → from 0 fs ≡ []
    none_in_any l = all ∙ ap (from i) (drop_all fs i l)
