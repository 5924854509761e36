-- The equality of documents is an equivalence, and is `≡`.
use Rattle.std.specs.Prelude.{◌≡◌, Bool, true, false, ◌&&◌, refl}
use Rattle.std.specs.Bool.{Decides}
use Rattle.std.specs.Cmp.{IsPartialEquivalence, both_ways}
use Rattle.std.proofs.Common.{bytes_eq, ap, ap₂, subst}
use Rattle.std.proofs.lemmas.Bool.Decides.{Decides-int_eq}
use Rattle.std.proofs.lemmas.Slice.Eq.{bytes_eq-Decides}
use Rattle.cs_document.specs.Document.{Document, null, boolean, integer, text, list, object, Documents, no_documents, document, Members, no_members, member, document_eq, documents_eq, members_eq}

both : (a b : Bool) → (a && b) ≡ true → (a ≡ true) × (b ≡ true)
both true true e = (refl, refl)
both true false e = (refl, e)
both false b e = (e, cc)

mutual
  pub document_eq-refl : (a : Document) → document_eq a a ≡ true
  document_eq-refl null = refl
  document_eq-refl (boolean true) = refl
  document_eq-refl (boolean false) = refl
  document_eq-refl (integer z) = (Decides-int_eq z z).1 refl
  document_eq-refl (text s) = (bytes_eq-Decides s s).1 refl
  document_eq-refl (list ds) = documents_eq-refl ds
  document_eq-refl (object ms) = members_eq-refl ms

  documents_eq-refl : (a : Documents) → documents_eq a a ≡ true
  documents_eq-refl no_documents = refl
  documents_eq-refl (document d ds) = ap₂ (λ x y. x && y) (document_eq-refl d) (documents_eq-refl ds)

  members_eq-refl : (a : Members) → members_eq a a ≡ true
  members_eq-refl no_members = refl
  members_eq-refl (member k d ms) = rw ((bytes_eq-Decides k k).1 refl, document_eq-refl d, members_eq-refl ms)

mutual
  pub document_eq-true : (a b : Document) → document_eq a b ≡ true → a ≡ b
  document_eq-true null null e = refl
  document_eq-true (boolean true) (boolean true) e = refl
  document_eq-true (boolean false) (boolean false) e = refl
  document_eq-true (integer a) (integer b) e = ap integer ((Decides-int_eq a b).0 e)
  document_eq-true (text a) (text b) e = ap text ((bytes_eq-Decides a b).0 e)
  document_eq-true (list a) (list b) e = ap list (documents_eq-true a b e)
  document_eq-true (object a) (object b) e = ap object (members_eq-true a b e)
  document_eq-true _ _ e = cc

  documents_eq-true : (a b : Documents) → documents_eq a b ≡ true → a ≡ b
  documents_eq-true no_documents no_documents e = refl
  documents_eq-true (document a as') (document b bs) e =
      let h = both (document_eq a b) (documents_eq as' bs) e in
      ap₂ document (document_eq-true a b h.0) (documents_eq-true as' bs h.1)
  documents_eq-true _ _ e = cc

  members_eq-true : (a b : Members) → members_eq a b ≡ true → a ≡ b
  members_eq-true no_members no_members e = refl
  members_eq-true (member k a as') (member l b bs) e =
      let h = both (bytes_eq k l && document_eq a b) (members_eq as' bs) e in
      let g = both (bytes_eq k l) (document_eq a b) h.0 in
      let key : k ≡ l = (bytes_eq-Decides k l).0 g.0 in
      rw (key, document_eq-true a b g.1, members_eq-true as' bs h.1)
  members_eq-true _ _ e = cc

turned : (a b : Document) → document_eq a b ≡ true → document_eq b a ≡ true
turned a b e = let same : a ≡ b = document_eq-true a b e in subst (λ x. document_eq x a ≡ true) same (document_eq-refl a)

pub document_eq-laws : IsPartialEquivalence document_eq
document_eq-laws = record {
  symm = λ a b. both_ways (document_eq a b) (document_eq b a) (turned a b) (turned b a);
  trans = λ a b c h k. subst (λ x. document_eq a x ≡ true) (document_eq-true b c k) h;
}

-- the test answers yes exactly where the documents are the same
pub document_eq-Decides : (a b : Document) → Decides (document_eq a b) (a ≡ b)
document_eq-Decides a b = (document_eq-true a b, λ same. subst (λ x. document_eq a x ≡ true) same (document_eq-refl a))
