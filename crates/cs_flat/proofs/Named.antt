-- The items of a document name each of its values but the document once.
use Rattle.std.proofs.Common.{◌≡◌, ℕ, zero, suc, ◌+◌, List, [], ◌∷◌, ◌++◌, map, refl, sym, ap, ap₂, subst, arith}
use Rattle.std.specs.List.{flat_map, range_with_len}
use Rattle.std.specs.List.Sorted.{IsPermutation}
use Rattle.std.proofs.lemmas.Grind.{flat_map-append}
use Rattle.std.proofs.lemmas.List.{flat_map_more}
use Rattle.std.proofs.lemmas.List.Sorted.{IsPermutation-refl, IsPermutation-trans, IsPermutation-append}
use Rattle.cs_document.specs.Document.{Document, null, boolean, integer, text, list, object, Documents, no_documents, document, Members, no_members, member}
use Rattle.cs_document.specs.Opened.{Opened, a_list, an_object}
use Rattle.cs_flat.specs.Items.{inside, inside_elements, inside_members, element_numbers, member_numbers, items_behind, element_items, member_items}
use Rattle.cs_flat.specs.Listed.{numbers_in}
use Rattle.cs_flat.proofs.Permuted.{paired}

-- ---- ranges one behind the other

pub ranges : (a m b n k : ℕ) → a + m ≡ b → m + n ≡ k → range_with_len a m ++ range_with_len b n ≡ range_with_len a k
ranges a zero b n k e f = ap₂ range_with_len (omega arith) (omega arith)
ranges a (suc m) b n zero e f = absurd (omega arith)
ranges a (suc m) b n (suc k) e f = ap (λ ns. a ∷ ns) (ranges (a + 1) m b n k (omega arith) (omega arith))

IsPermutation-ranges : (as' bs : List ℕ) (a m b n k : ℕ) → a + m ≡ b → m + n ≡ k → IsPermutation as' (range_with_len a m) → IsPermutation bs (range_with_len b n) → IsPermutation (as' ++ bs) (range_with_len a k)
IsPermutation-ranges as' bs a m b n k e f p q =
    subst (IsPermutation (as' ++ bs)) (ranges a m b n k e f) (IsPermutation-append as' (range_with_len a m) bs (range_with_len b n) p q)

-- ---- what the items of a document name

-- the values of the first one, itself, and those of the rest
first_named : (n i k : ℕ) (xs ys : List (Opened ℕ)) (ns : List ℕ) → IsPermutation (flat_map numbers_in xs) (range_with_len n i) → IsPermutation (flat_map numbers_in ys ++ ns) (range_with_len (suc (n + i)) k)
    → IsPermutation (flat_map numbers_in (xs ++ ys) ++ (n + i) ∷ ns) (range_with_len n (suc (i + k)))
first_named n i k xs ys ns p q =
    let first = flat_map numbers_in xs in
    let rest = flat_map numbers_in ys in
    let own = IsPermutation-ranges first ((n + i) ∷ []) n i (n + i) 1 (suc i) refl (omega arith) p (IsPermutation-refl ((n + i) ∷ [])) in
    subst (λ l. IsPermutation (l ++ (n + i) ∷ ns) (range_with_len n (suc (i + k)))) (sym (flat_map-append numbers_in xs ys))
    (IsPermutation-trans _ _ _ (paired first rest ((n + i) ∷ []) ns) (IsPermutation-ranges (first ++ (n + i) ∷ []) (rest ++ ns) n (suc i) (suc (n + i)) k (suc (i + k)) (omega arith) (omega arith) own q))

mutual
  pub items_named : (n : ℕ) (d : Document) → IsPermutation (flat_map numbers_in (items_behind n d)) (range_with_len n (inside d))
  items_named n null = IsPermutation-refl []
  items_named n (boolean b) = IsPermutation-refl []
  items_named n (integer z) = IsPermutation-refl []
  items_named n (text s) = IsPermutation-refl []
  items_named n (list ds) =
      subst (λ l. IsPermutation l (range_with_len n (inside_elements ds))) (flat_map_more numbers_in [] (element_items n ds) (a_list (element_numbers n ds))) (elements_named n ds)
  items_named n (object ms) =
      subst (λ l. IsPermutation l (range_with_len n (inside_members ms))) (flat_map_more numbers_in [] (member_items n ms) (an_object (member_numbers n ms))) (members_named n ms)

  elements_named : (n : ℕ) (ds : Documents) → IsPermutation (flat_map numbers_in (element_items n ds) ++ element_numbers n ds) (range_with_len n (inside_elements ds))
  elements_named n no_documents = IsPermutation-refl []
  elements_named n (document d ds) =
      let m = suc (n + inside d) in
      first_named n (inside d) (inside_elements ds) (items_behind n d) (element_items m ds) (element_numbers m ds) (items_named n d) (elements_named m ds)

  members_named : (n : ℕ) (ms : Members) → IsPermutation (flat_map numbers_in (member_items n ms) ++ map (λ m. m.1) (member_numbers n ms)) (range_with_len n (inside_members ms))
  members_named n no_members = IsPermutation-refl []
  members_named n (member k d ms) =
      let m = suc (n + inside d) in
      first_named n (inside d) (inside_members ms) (items_behind n d) (member_items m ms) (map (λ e. e.1) (member_numbers m ms)) (items_named n d) (members_named m ms)
