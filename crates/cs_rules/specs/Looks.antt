-- A judge of numbered rules looks at earlier pairs alone, where each rule looks at its parts alone.
use Rattle.std.specs.Prelude.{◌≡◌, ℕ, zero, suc, ◌<◌, List, [], ◌∷◌, Option, Some, None, length, slice_get, slice_index}
use Rattle.std.specs.List.{AllByRecursion as Each}
use Rattle.std.proofs.Common.{refl, inl, inr, lt_trans, zero-le}
use Rattle.std.proofs.lemmas.Option.{slice_get_within}
use Rattle.std.proofs.Math.Nat.{lt_of_le_of_lt}
use mathlib.Core.Bool.{Bool-set}
use Rattle.std.proofs.Math.Logic.{∥∥₁_elim}
use Rattle.cs_document.specs.Document.{Document}
use Rattle.cs_document.specs.Opened.{Opened}
use Rattle.cs_flat.specs.Nodes.{node_at}
use Rattle.cs_table.specs.Judged.{LooksBack}
use Rattle.cs_rules.specs.Steps.{Step, LooksAtParts, ArePlaced, AreLower}
use Rattle.cs_rules.specs.Answers.{step_at, answer}

-- what holds of each element and of zero
each_at : (P : ℕ → Type 0) (xs : List ℕ) → Each P xs → P 0 → (p : ℕ) → P (slice_index xs p)
each_at P [] h z p = z
each_at P (x ∷ xs) h z zero = h.0
each_at P (x ∷ xs) h z (suc p) = each_at P xs h.1 z p

module _ {R : Type 0} (below : R → ℕ → ℕ → Type 0) (step : R → Step) (parts : (x : R) → LooksAtParts (below x) (step x)) where
  placed_looks_back : (rules : List R) (children : List ℕ) (ns : List Document) (items : List (Opened ℕ)) → ArePlaced below rules children → AreLower items
      → LooksBack (length rules) (answer step rules children ns items)
  placed_looks_back rules children ns items a b i r f g h = go (slice_get rules r) (slice_get items i) refl refl
    where
      go : (o : Option R) (x : Option (Opened ℕ)) → slice_get rules r ≡ o → slice_get items i ≡ x → step_at step children f i o (node_at ns i) x ≡ step_at step children g i o (node_at ns i) x
      go None x e k = refl
      go (Some rule) None e k = refl
      go (Some rule) (Some it) e k =
          let l = slice_get_within rules r rule e in
          parts rule i r (length children) (f i) (g i) (λ y p. f y (slice_index children p)) (λ y p. g y (slice_index children p))
          (λ q m. h i q (lt_trans m l) (inr (refl, m)))
          (λ y p m n. h y (slice_index children p) (each_at (λ q. q < length rules) children a.inside (lt_of_le_of_lt zero-le l) p) (inl m))
          (node_at ns i) it (a.parts r rule e) (b i it k)

  pub answer_looks_back : (rules : List R) (children : List ℕ) (ns : List Document) (items : List (Opened ℕ)) → ∥ ArePlaced below rules children ∥₁ → AreLower items
      → LooksBack (length rules) (answer step rules children ns items)
  answer_looks_back rules children ns items a b i r f g h =
      ∥∥₁_elim a (Bool-set (answer step rules children ns items i r f) (answer step rules children ns items i r g)) (λ placed. placed_looks_back rules children ns items placed b i r f g h)
