-- Operands that are joined, as a list of values.
use Rattle.std.proofs.Common.{◌≡◌, ℕ, suc, Bool, true, false, ◌&&◌, not, List, [], ◌∷◌, None, refl, sym, ap, ◌∙◌}
use Rattle.std.specs.List.{flat_map, list_all}
use Rattle.cs_grammar.specs.Tree.{Tree, conjunction, DefinitionTree}
use Rattle.cs_grammar.specs.View.{trees_of}
use Rattle.cs_embeddings.specs.Alternatives.{Origin, Alternative, itself, join_all, join_bodies, nothing, alternatives}
use Rattle.cs_embeddings.specs.Embedded.{all_embedded, can_be_embedded}
use Rattle.cs_embeddings.specs.Shut.{some_shut}
use Rattle.cs_embeddings.proofs.Joins.{at_conjunction}
use Rattle.cs_embeddings.proofs.Steps.{stepped}

embedded_as_bodies : (can : Tree → Bool) (ts : List Tree) → all_embedded can (trees_of ts) ≡ list_all can ts
embedded_as_bodies can [] = refl
embedded_as_bodies can (t ∷ ts) = ap (λ b. can t && b) (embedded_as_bodies can ts)

joined_as_bodies : (inner : Origin → Tree → Alternative → List Alternative) (p : Origin) (ts : List Tree) (xs : List Alternative)
    → join_all inner p (trees_of ts) xs ≡ join_bodies inner p ts xs
joined_as_bodies inner p [] xs = refl
joined_as_bodies inner p (t ∷ ts) xs = joined_as_bodies inner p ts (flat_map (inner p t) xs)

module _ (ds : List DefinitionTree) (n left : ℕ) (ts : List Tree) (one : n ≡ suc left) where
  pub together_can : (b : Bool) → not (some_shut false (trees_of ts)) ≡ true → b ≡ list_all (can_be_embedded ds left) ts
      → b ≡ (not (some_shut false (trees_of ts)) && can_be_embedded ds n (conjunction (trees_of ts)))
  together_can b apart can =
      let here =
      stepped ds n left (conjunction (trees_of ts)) b one
      (can ∙ sym (embedded_as_bodies (can_be_embedded ds left) ts)) in
      here ∙ sym (ap (λ s. s && can_be_embedded ds n (conjunction (trees_of ts))) apart)

  pub shut_cannot : not (some_shut false (trees_of ts)) ≡ false → false ≡ (not (some_shut false (trees_of ts)) && can_be_embedded ds n (conjunction (trees_of ts)))
  shut_cannot shut = sym (ap (λ s. s && can_be_embedded ds n (conjunction (trees_of ts))) shut)

  -- each can be embedded, and they are joined one behind the other
  module _ (can : can_be_embedded ds n (conjunction (trees_of ts)) ≡ true) where
    pub each_can : list_all (can_be_embedded ds left) ts ≡ true
    each_can =
        let here = at_conjunction ds n left (itself None) nothing one (conjunction (trees_of ts)) (trees_of ts) refl can in
        sym (embedded_as_bodies (can_be_embedded ds left) ts) ∙ here.0

    pub joined_in_turn : (p : Origin) (a : Alternative) → join_bodies (alternatives ds left) p ts (a ∷ []) ≡ alternatives ds n p (conjunction (trees_of ts)) a
    joined_in_turn p a =
        let here = at_conjunction ds n left p a one (conjunction (trees_of ts)) (trees_of ts) refl can in
        sym (joined_as_bodies (alternatives ds left) p ts (a ∷ [])) ∙ sym here.1
