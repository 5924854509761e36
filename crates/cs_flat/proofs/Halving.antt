-- What halving finds among integers in order, and among other documents in the order of their hashes.
use Rattle.std.proofs.Common.{◌≡◌, ℕ, zero, suc, ℤ, Bool, false, ◌||◌, List, [], ◌∷◌, Some, None, length, map, Bor, Result, Ok, Err, Ordering, Less, Equal, Greater, is_ok, nat_cmp, refl, sym, ap, ap₂, ◌∙◌, subst, arith}
use Rattle.std.specs.List.{list_any, flat_map, AllWithin}
use Rattle.std.specs.List.Sorted.{IsSorted, IsSortedBy, IsBinarySearchResult, IsSearchInRange}
use Rattle.std.specs.Ordering.{is_eq, is_lt, int_cmp, ordering_then}
use Rattle.std.specs.Cmp.{IsTotalOrder}
use Rattle.std.proofs.lemmas.Cmp.{nat_cmp_total, int_cmp_total, on_total, then_total}
use Rattle.std.proofs.lemmas.List.Folds.{list_any_at}
use Rattle.std.proofs.lemmas.List.Sorted.{searchable_from_sorted, list_any-IsPermutation}
use Rattle.cs_document.specs.Document.{Document, null, boolean, integer, text, list, object, document_eq}
use Rattle.cs_document.specs.Order.{document_cmp}
use Rattle.cs_flat.specs.Sorted.{Hashed, hash, hashed, hashed_cmp, integer_of, integer_in, other_in, seen, IsInOrder}
use Rattle.cs_document.specs.TotalOrder.{document_cmp-eq, document_cmp-same, document_cmp-total}
use Rattle.cs_document.specs.declared.doc.Doc.{Doc}

-- ---- among keys in a total order

module _ {K X : Type 0} {R : K → K → Ordering} (o : IsTotalOrder R) (key : X → K) (k : K) where
  abbrev is_found : X → Bool
  is_found x = is_eq (R (key x) k)

  missed : (xs : List X) (i : ℕ) → AllWithin (λ x. R (key x) k ≡ Less) xs 0 i → AllWithin (λ x. R (key x) k ≡ Greater) xs i (length xs) → false ≡ list_any is_found xs
  missed [] i less more = refl
  missed (x ∷ xs) zero less more =
      missed xs zero (λ j e a b. absurd (omega arith)) (λ j e a b. more (suc j) e (omega arith) (omega arith))
      ∙ sym (ap (λ r. is_eq r || list_any is_found xs) (more 0 x (omega arith) (omega arith)))
  missed (x ∷ xs) (suc i) less more =
      missed xs i (λ j e a b. less (suc j) e (omega arith) (omega arith)) (λ j e a b. more (suc j) e (omega arith) (omega arith))
      ∙ sym (ap (λ r. is_eq r || list_any is_found xs) (less 0 x (omega arith) (omega arith)))

  pub told : (xs : List X) (r : Result ℕ ℕ) → IsSortedBy (λ a b. is_lt (R (key a) (key b))) xs → IsSearchInRange r (length xs) → IsBinarySearchResult (λ x. R (key x) k) xs r
      → is_ok r ≡ list_any is_found xs
  told [] (Ok i) up within found = absurd (omega (arith, within))
  told (x ∷ xs) (Ok i) up within found = sym (list_any_at is_found (x ∷ xs) i x within (ap is_eq (found x)))
  told xs (Err i) up within found =
      let parted = found (searchable_from_sorted o key xs k up) in missed xs i parted.0 parted.1

-- ---- among integers

any_integer : (z : ℤ) (ds : List Document) → list_any (λ y. is_eq (int_cmp y z)) (flat_map integer_in ds) ≡ list_any (λ v. document_eq v (integer z)) ds
any_integer z [] = refl
any_integer z (integer y ∷ ds) = ap (λ b. is_eq (int_cmp y z) || b) (any_integer z ds)
any_integer z (null ∷ ds) = any_integer z ds
any_integer z (boolean b ∷ ds) = any_integer z ds
any_integer z (text s ∷ ds) = any_integer z ds
any_integer z (list l ∷ ds) = any_integer z ds
any_integer z (object ms ∷ ds) = any_integer z ds

is_integer : (x : Document) (z : ℤ) → Some z ≡ integer_of x → integer z ≡ x
is_integer (integer y) z e = (let same : z ≡ y = cc in ap integer same)
is_integer null z e = cc
is_integer (boolean b) z e = cc
is_integer (text s) z e = cc
is_integer (list l) z e = cc
is_integer (object ms) z e = cc

pub among_integers : (x : Document) (z : ℤ) (docs : List Document) (zs ys : List ℤ) (es : List (ℕ × Bor Doc)) (r : Result ℕ ℕ) → Some z ≡ integer_of x → IsInOrder docs zs es → ys ≡ zs
    → IsSearchInRange r (length ys) → IsBinarySearchResult (λ y. int_cmp y z) ys r → is_ok r ≡ list_any (λ v. document_eq v x) docs
among_integers x z docs zs ys es r is order same within found =
    let up = subst (IsSorted int_cmp) (sym same) order.integer_order in
    told int_cmp_total (λ y. y) z ys r up within found ∙ ap (list_any (λ y. is_eq (int_cmp y z))) same
    ∙ sym (list_any-IsPermutation (λ y. is_eq (int_cmp y z)) (flat_map integer_in docs) zs order.same_integers) ∙ any_integer z docs ∙ ap (λ d. list_any (λ v. document_eq v d) docs) (is_integer x z is)

-- ---- among other documents

hashed_cmp-total : IsTotalOrder hashed_cmp
hashed_cmp-total = then_total (on_total (λ (h : Hashed). h.0) nat_cmp_total) (on_total (λ (h : Hashed). h.1) document_cmp-total)

tied : (o p : Ordering) → (p ≡ Equal → o ≡ Equal) → is_eq (ordering_then o p) ≡ is_eq p
tied Less Less e = refl
tied Less Equal e = ap is_eq (e refl)
tied Less Greater e = refl
tied Equal p e = refl
tied Greater Less e = refl
tied Greater Equal e = ap is_eq (e refl)
tied Greater Greater e = refl

nat_tie : (n : ℕ) → nat_cmp n n ≡ Equal
nat_tie n = grind arith

same_hash : (a b : Document) → document_cmp a b ≡ Equal → nat_cmp (hash a) (hash b) ≡ Equal
same_hash a b e = subst (λ d. nat_cmp (hash a) (hash d) ≡ Equal) (document_cmp-same a b e) (nat_tie (hash a))

module _ (x : Document) (n : ℕ) (is : n ≡ hash x) (other : None ≡ integer_of x) where
  hashed_same : (d : Document) → is_eq (hashed_cmp (hashed d) (n, x)) ≡ document_eq d x
  hashed_same d = tied (nat_cmp (hash d) n) (document_cmp d x) (λ e. ap (nat_cmp (hash d)) is ∙ same_hash d x e) ∙ sym (document_cmp-eq d x)

  abbrev is_same : Hashed → Bool
  is_same h = is_eq (hashed_cmp h (n, x))

  no_integer : (z : ℤ) → document_eq (integer z) x ≡ false
  no_integer z = no_other x other where
    no_other : (y : Document) → None ≡ integer_of y → document_eq (integer z) y ≡ false
    no_other (integer y) e = cc
    no_other null e = refl
    no_other (boolean b) e = refl
    no_other (text s) e = refl
    no_other (list l) e = refl
    no_other (object ms) e = refl

  any_other : (ds : List Document) → list_any is_same (flat_map other_in ds) ≡ list_any (λ v. document_eq v x) ds
  any_other [] = refl
  any_other (integer z ∷ ds) = any_other ds ∙ sym (ap (λ b. b || list_any (λ v. document_eq v x) ds) (no_integer z))
  any_other (null ∷ ds) = ap₂ (λ a b. a || b) (hashed_same null) (any_other ds)
  any_other (boolean b ∷ ds) = ap₂ (λ a b. a || b) (hashed_same (boolean b)) (any_other ds)
  any_other (text s ∷ ds) = ap₂ (λ a b. a || b) (hashed_same (text s)) (any_other ds)
  any_other (list l ∷ ds) = ap₂ (λ a b. a || b) (hashed_same (list l)) (any_other ds)
  any_other (object ms ∷ ds) = ap₂ (λ a b. a || b) (hashed_same (object ms)) (any_other ds)

  any_seen : (es : List (ℕ × Bor Doc)) → list_any (λ e. is_same (seen e)) es ≡ list_any is_same (map seen es)
  any_seen [] = refl
  any_seen (e ∷ es) = ap (λ b. is_same (seen e) || b) (any_seen es)

  pub among_others : (docs : List Document) (zs : List ℤ) (es fs : List (ℕ × Bor Doc)) (r : Result ℕ ℕ) → IsInOrder docs zs es → fs ≡ es
      → IsSearchInRange r (length fs) → IsBinarySearchResult (λ e. hashed_cmp (seen e) (n, x)) fs r → is_ok r ≡ list_any (λ v. document_eq v x) docs
  among_others docs zs es fs r order same within found =
      let up = subst (IsSorted (λ c d. hashed_cmp (seen c) (seen d))) (sym same) order.other_order in
      told hashed_cmp-total seen (n, x) fs r up within found ∙ ap (list_any (λ e. is_same (seen e))) same
      ∙ any_seen es ∙ sym (list_any-IsPermutation is_same (flat_map other_in docs) (map seen es) order.same_others) ∙ any_other docs
