-- How deep documents nest, one by one.
use Rattle.std.proofs.Common.{◌≡◌, ℕ, ◌+◌, ◌-◌, suc, ◌<◌, ◌≤◌, List, ◌∷◌, length, drop, get_or, drop-cons, true, false, ap, sym, ◌∙◌, arith}
use Rattle.std.proofs.Math.Numerals.{add-one}
use Rattle.std.proofs.lemmas.List.{drop_all}
use Rattle.std.proofs.lemmas.Bool.Decides.{nat_tests}
use Rattle.std.specs.Prelude.{max, nat_le}
use Rattle.cs_document.specs.Document.{depth, documents_depth, members_depth}
use Rattle.cs_document.specs.View.{doc_view, list_view, object_view}
use Rattle.cs_document.specs.declared.doc.Doc.{Doc}
use Rattle.cs_document.proofs.Entries.{Entry}

max_within : (m n k : ℕ) → nat_le m k ≡ true → nat_le (max m n) k ≡ nat_le n k
max_within m n k h = grind (arith, nat_tests)

max_beyond : (m n k : ℕ) → nat_le m k ≡ false → nat_le (max m n) k ≡ false
max_beyond m n k h = grind (arith, nat_tests)

pub one_more : (n k : ℕ) → 0 < k → nat_le (suc n) k ≡ nat_le n (k - 1)
one_more n k h = grind (arith, nat_tests)

pub nothing_deep : (k : ℕ) → nat_le 0 k ≡ true
nothing_deep k = grind (arith, nat_tests)

pub none_more : (n k : ℕ) → k ≤ 0 → nat_le (suc n) k ≡ false
none_more n k h = grind (arith, nat_tests)

-- ---- elements

module _ (xs : List Doc) (i k : ℕ) where
  first : (x : Doc) → i < length xs → x ≡ get_or xs i x → drop i xs ≡ x ∷ drop (i + 1) xs
  first x l is = rw add-one (drop-cons xs i x l ∙ ap (λ y. y ∷ drop (suc i) xs) (sym is))

  pub element_within : (x : Doc) → i < length xs → x ≡ get_or xs i x → nat_le (depth (doc_view x)) k ≡ true
      → nat_le (documents_depth (list_view (drop (i + 1) xs))) k ≡ nat_le (documents_depth (list_view (drop i xs))) k
  element_within x l is h =
      sym (ap (λ ys. nat_le (documents_depth (list_view ys)) k) (first x l is) ∙ max_within (depth (doc_view x)) (documents_depth (list_view (drop (i + 1) xs))) k h)

  pub element_beyond : (x : Doc) → i < length xs → x ≡ get_or xs i x → nat_le (depth (doc_view x)) k ≡ false
      → nat_le (documents_depth (list_view (drop i xs))) k ≡ false
  element_beyond x l is h =
      ap (λ ys. nat_le (documents_depth (list_view ys)) k) (first x l is) ∙ max_beyond (depth (doc_view x)) (documents_depth (list_view (drop (i + 1) xs))) k h

  pub elements_within : length xs ≤ i → nat_le (documents_depth (list_view (drop i xs))) k ≡ true
  elements_within l = ap (λ ys. nat_le (documents_depth (list_view ys)) k) (drop_all i xs l) ∙ nothing_deep k

-- ---- members

module _ (e : Entry) (es : List Entry) (k : ℕ) where
  pub member_within : nat_le (depth (doc_view e.1)) k ≡ true → nat_le (members_depth (object_view (e ∷ es))) k ≡ nat_le (members_depth (object_view es)) k
  member_within h = max_within (depth (doc_view e.1)) (members_depth (object_view es)) k h

  pub member_beyond : nat_le (depth (doc_view e.1)) k ≡ false → nat_le (members_depth (object_view (e ∷ es))) k ≡ false
  member_beyond h = max_beyond (depth (doc_view e.1)) (members_depth (object_view es)) k h
