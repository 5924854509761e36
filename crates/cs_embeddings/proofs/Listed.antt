-- What is listed as declarations: what alternatives declare, and definitions.
use Rattle.std.proofs.Common.{◌≡◌, ℕ, ◌+◌, ◌<◌, ◌≤◌, List, [], ◌∷◌, ◌++◌, map, take, length, get_or, refl, sym, ap, ap₂, ◌∙◌}
use Rattle.std.proofs.lemmas.List.{map-append, take_all}
use Rattle.cs_grammar.specs.View.{definition_view}
use Rattle.cs_grammar.specs.declared.ast.Definition.{Definition}
use Rattle.cs_embeddings.proofs.Parts.{take_at}
use Rattle.cs_embeddings.specs.Alternatives.{Brought}
use Rattle.cs_embeddings.specs.Bodies.{as_declared}
use Rattle.cs_embeddings.specs.GatheredTable.{declared_view}
use Rattle.cs_embeddings.specs.declared.gathered.Declared.{Declared}

map_both : {X Y Z : Type 0} (f : Y → Z) (g : X → Y) (xs : List X) → map f (map g xs) ≡ map (λ x. f (g x)) xs
map_both f g [] = refl
map_both f g (x ∷ xs) = ap (λ ys. f (g x) ∷ ys) (map_both f g xs)

-- ---- one after another

module _ {X : Type 0} (own : X → Brought) (xs : List X) (i : ℕ) where
  pub one_listed : (x : X) → i < length xs → x ≡ get_or xs i x → (ys zs : List Declared) (y : Declared) → zs ≡ ys ++ y ∷ [] → declared_view y ≡ own x
      → map declared_view ys ≡ map own (take i xs) → map declared_view zs ≡ map own (take (i + 1) xs)
  one_listed x l is ys zs y grown same told =
      ap (map declared_view) grown ∙ map-append declared_view ys (y ∷ []) ∙ ap₂ (λ ds d. ds ++ d ∷ []) told same
      ∙ sym (ap (map own) (take_at xs i x l is) ∙ map-append own (take i xs) (x ∷ []))

  pub all_listed : length xs ≤ i → (ys : List Declared) → map declared_view ys ≡ map own (take i xs) → map declared_view ys ≡ map own xs
  all_listed l ys told = told ∙ ap (map own) (take_all i xs l)

-- ---- definitions

abbrev pub own_declared : Definition → Brought
own_declared d = as_declared (definition_view d)

pub all_declared : (xs : List Definition) → map own_declared xs ≡ map as_declared (map definition_view xs)
all_declared xs = sym (map_both as_declared definition_view xs)
