-- The definitions that selectors are made (own rule): `#B.x.y` is `#B_x_y`, with the least number from 1 behind it where that is taken by a definition of
-- the files or of another selector. Selectors with one definition and equal labels have one.
use Rattle.std.specs.Prelude.{◌≡◌, ℕ, Bool, false, ◌||◌, List, [], ◌∷◌, ◌++◌, map, Option, Some, None, is_some, if◌then◌else◌}
use Rattle.std.specs.Cmp.Lexicographic.{pointwise}
use Rattle.std.specs.List.{list_any, flat_map}
use Rattle.std.specs.Str.{bytes_eq}
use Rattle.cs_grammar.specs.Tree.{Tree, DefinitionTree, FileTree}
use Rattle.cs_names.specs.Lifted.{free, is_defined, all_definitions}
use Rattle.cs_plain.specs.Bodies.{Body, bodies_in, values_of}
use Rattle.cs_selectors.specs.Reached.{texts, values_in}
use Rattle.cs_selectors.specs.Uses.{Place, Use, uses_from}

-- the definition before the labels, and then they
abbrev pub Path : Type 0
Path = List (List ℕ)

abbrev pub path : Use → Path
path u = u.head ∷ texts u.labels

abbrev pub is_path : Path → Path → Bool
is_path p q = pointwise bytes_eq p q

-- a definition that is made: of which selectors, its name, where the first of them is, and the values that they ask for
pub record Given : Type 0 where
  pub path : Path
  pub name : List ℕ
  pub home : Place
  pub values : List Tree

-- the name of the definition that selectors are made
abbrev pub known : List Given → Path → Option (List ℕ)
known [] p = None
known (g ∷ gs) p = if is_path g.path p then Some g.name else known gs p

-- `_` (95) before each label
abbrev pub wanted : List ℕ → List (List ℕ) → List ℕ
wanted s ts = s ++ flat_map (λ t. 95 ∷ t) ts

abbrev pub is_given : List Given → List ℕ → Bool
is_given gs s = list_any (λ g. bytes_eq g.name s) gs

abbrev pub given_names : List Given → List (List ℕ)
given_names gs = map (λ g. g.name) gs

abbrev pub is_taken : List DefinitionTree → List Given → List ℕ → Bool
is_taken all gs s = is_defined all s || is_given gs s

-- no two paths have one definition's name, and none that of a definition of the files
pub record AreApart (all : List DefinitionTree) (gs : List Given) : Type 0 where
  pub paths : (p q : Path) (s : List ℕ) → known gs p ≡ Some s → known gs q ≡ Some s → p ≡ q
  pub undefined : (p : Path) (s : List ℕ) → known gs p ≡ Some s → is_defined all s ≡ false

module _ (all : List DefinitionTree) (bs : List Body) where
  abbrev pub given : List Given → Use → Given
  given gs u = record {
    path = path u;
    name = free (is_taken all gs) (wanted u.head (texts u.labels));
    home = u.place;
    values = values_in (values_of u.head bs) (texts u.labels);
  }

  -- with that of a selector, if it isn't there already
  abbrev pub with_given : List Given → Use → List Given
  with_given gs u = if is_some (known gs (path u)) then gs else gs ++ given gs u ∷ []

  abbrev pub with_all : List Given → List Use → List Given
  with_all gs [] = gs
  with_all gs (u ∷ us) = with_all (with_given gs u) us

-- those of all selectors, in order of their first ones
abbrev pub gifts : List FileTree → List Given
gifts fs = with_all (all_definitions fs) (bodies_in fs) [] (uses_from 0 fs)
