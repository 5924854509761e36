-- What is found in files, which are numbered.
use Rattle.std.proofs.Common.{◌≡◌, ℕ, ◌+◌, ◌<◌, ◌≤◌, List, [], ◌∷◌, ◌++◌, Some, map, drop, length, get_or, slice_get, sym, ap, ◌∙◌, add-one}
use Rattle.std.specs.List.{flat_map}
use Rattle.cs_grammar.specs.Tree.{Tree, body}
use Rattle.cs_grammar.specs.View.{definition_view, file_view}
use Rattle.cs_grammar.specs.declared.ast.File.{File}
use Rattle.cs_embeddings.proofs.Firsts.{first_left, none_left}
use Rattle.cs_embeddings.proofs.Walks.{at_place, drop_all}
use Rattle.cs_embeddings.specs.Without.{found_from}

module _ {A : Type 0} (found : Tree → List A) where
  abbrev pub own_found : File → List A
  own_found f = flat_map (λ d. found (body d)) (map definition_view f.definitions.items)

  abbrev pub in_file : ℕ → File → List (ℕ × A)
  in_file i f = map (λ x. (i, x)) (own_found f)

  -- what is found from a file on
  abbrev pub from : ℕ → List File → List (ℕ × A)
  from i fs = found_from found i (map file_view fs)

  pub first_numbered : (i : ℕ) (os : List A) (o : A) → slice_get os 0 ≡ Some o → slice_get {X = ℕ × A} (map (λ p. (i, p)) os) 0 ≡ Some (i, o)
  first_numbered i [] o h = cc
  first_numbered i (p ∷ os) o h = cc

  module _ (fs : List File) (i : ℕ) (all : from 0 fs ≡ from i (drop i fs)) where
    module _ (f : File) (l : i < length fs) (is : f ≡ get_or fs i f) where
      cut : from 0 fs ≡ in_file i f ++ from (i + 1) (drop (i + 1) fs)
      cut =
          all ∙ ap (from i) (at_place fs i f l is)
          ∙ ap (λ j. in_file i f ++ from j (drop (i + 1) fs)) (sym (add-one i))

      pub first_in : (o : A) → slice_get (own_found f) 0 ≡ Some o → slice_get (from 0 fs) 0 ≡ Some (i, o)
      first_in o h = rw cut (first_left (in_file i f) (from (i + 1) (drop (i + 1) fs)) (i, o) (first_numbered i (own_found f) o h))

      pub none_in : own_found f ≡ [] → from 0 fs ≡ from (i + 1) (drop (i + 1) fs)
      none_in none = cut ∙ none_left (in_file i f) (from (i + 1) (drop (i + 1) fs)) (ap (map {B = ℕ × A} (λ x. (i, x))) none)

    -- no file has any
    pub none_at_all : length fs ≤ i → from 0 fs ≡ []
    none_at_all l = all ∙ ap (from i) (drop_all fs i l)
