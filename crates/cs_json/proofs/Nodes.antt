-- The values inside a map, where its members were taken in another order.
use Rattle.std.proofs.Common.{◌≡◌, ℕ, zero, suc, ◌<◌, List, [], ◌∷◌, ◌++◌, length, get_or, set, refl, ap, subst, arith}
use Rattle.std.specs.List.{flat_map}
use Rattle.std.specs.List.Sorted.{IsPermutation}
use Rattle.std.proofs.lemmas.List.Edits.{swap_is}
use Rattle.std.proofs.lemmas.List.Sorted.{IsPermutation-refl, IsPermutation-trans, IsPermutation-append_right, IsPermutation-keeps}
use Rattle.cs_document.specs.Document.{Document, Entry}
use Rattle.cs_flat.specs.Nodes.{nodes, element_nodes, member_nodes}
use Rattle.cs_flat.specs.Listed.{documents_of, members_of}
use Rattle.cs_flat.proofs.Permuted.{turned}

module _ {A B : Type 0} (f : A → List B) where
  -- an element taken out, and another one put in its place
  exchanged : (x d : A) (ys : List A) (j : ℕ) → j < length ys → IsPermutation (f x ++ flat_map f ys) (f (get_or ys j d) ++ flat_map f (set ys j x))
  exchanged x d [] j l = absurd (omega arith)
  exchanged x d (y ∷ ys) zero l = turned (f x) (f y) (flat_map f ys)
  exchanged x d (y ∷ ys) (suc j) l =
      let z = f (get_or ys j d) in
      let rest = flat_map f (set ys j x) in
      IsPermutation-trans _ _ _ (turned (f x) (f y) (flat_map f ys))
      (IsPermutation-trans _ _ _ (IsPermutation-append_right (f y) _ _ (exchanged x d ys j (omega arith))) (turned (f y) z rest))

  swapped : (xs : List A) (i j : ℕ) (d : A) → i < length xs → j < length xs → IsPermutation (flat_map f xs) (flat_map f (set (set xs i (get_or xs j d)) j (get_or xs i d)))
  swapped [] i j d k l = absurd (omega arith)
  swapped (x ∷ xs) zero zero d k l = IsPermutation-refl (f x ++ flat_map f xs)
  swapped (x ∷ xs) zero (suc j) d k l = exchanged x d xs j (omega arith)
  swapped (x ∷ xs) (suc i) zero d k l = exchanged x d xs i (omega arith)
  swapped (x ∷ xs) (suc i) (suc j) d k l = IsPermutation-append_right (f x) _ _ (swapped xs i j d (omega arith) (omega arith))

  first : (xs : List A) → 0 < length xs → A
  first [] l = absurd (omega arith)
  first (x ∷ xs) l = x

  pub flat_map-IsPermutation : (xs ys : List A) → IsPermutation xs ys → IsPermutation (flat_map f xs) (flat_map f ys)
  flat_map-IsPermutation xs ys moved = IsPermutation-keeps xs (λ l. IsPermutation (flat_map f xs) (flat_map f l)) (IsPermutation-refl (flat_map f xs))
      (λ l i j p q h.
      let d = first l (omega arith) in
      IsPermutation-trans _ _ _ h (subst (λ s. IsPermutation (flat_map f l) (flat_map f s)) (swap_is l i j d p q) (swapped l i j d p q))) ys moved

-- ---- values inside lists and maps

pub element_nodes-flat_map : (ds : List Document) → element_nodes (documents_of ds) ≡ flat_map nodes ds
element_nodes-flat_map [] = refl
element_nodes-flat_map (d ∷ ds) = ap (λ ns. nodes d ++ ns) (element_nodes-flat_map ds)

pub member_nodes-flat_map : (es : List (Entry Document)) → member_nodes (members_of es) ≡ flat_map (λ e. nodes e.1) es
member_nodes-flat_map [] = refl
member_nodes-flat_map (e ∷ es) = ap (λ ns. nodes e.1 ++ ns) (member_nodes-flat_map es)
