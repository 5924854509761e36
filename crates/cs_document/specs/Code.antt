-- A code for documents, by which a proof tells two of them apart. It says nothing of JSON.
use Rattle.std.specs.Prelude.{◌≡◌, ℕ, List, refl}
use Rattle.std.proofs.Common.{ap, ap₂, arith}
use Rattle.std.specs.Coded.{Coded, coded_ℕ, coded_ℤ, coded_bool, coded_list}
use base.Stored.{Gv, gnil, gnum, gcons}
use Rattle.cs_document.specs.Document.{Document, null, boolean, integer, text, list, object, Documents, no_documents, document, Members, no_members, member}

abbrev coded_text : Coded (List ℕ)
coded_text = coded_list coded_ℕ

abbrev mutual
  of_document : Document → Gv
  of_document null = gcons (gnum 0) gnil
  of_document (boolean b) = gcons (gnum 1) (coded_bool.code b)
  of_document (integer z) = gcons (gnum 2) (coded_ℤ.code z)
  of_document (text s) = gcons (gnum 3) (coded_text.code s)
  of_document (list ds) = gcons (gnum 4) (of_documents ds)
  of_document (object ms) = gcons (gnum 5) (of_members ms)

  of_documents : Documents → Gv
  of_documents no_documents = gnil
  of_documents (document d ds) = gcons (of_document d) (of_documents ds)

  of_members : Members → Gv
  of_members no_members = gnil
  of_members (member k d ms) = gcons (gcons (coded_text.code k) (of_document d)) (of_members ms)

-- ---- two with one code are one

abbrev first : Gv → Gv
first (gcons a b) = a
first _ = gnil

abbrev second : Gv → Gv
second (gcons a b) = b
second _ = gnil

abbrev number_of : Gv → ℕ
number_of (gnum n) = n
number_of _ = 0

mutual
  pub document-same : (a b : Document) → of_document a ≡ of_document b → a ≡ b
  document-same null null p = refl
  document-same (boolean a) (boolean b) p = ap boolean (coded_bool.inj a b (ap second p))
  document-same (integer a) (integer b) p = ap integer (coded_ℤ.inj a b (ap second p))
  document-same (text a) (text b) p = ap text (coded_text.inj a b (ap second p))
  document-same (list a) (list b) p = ap list (documents-same a b (ap second p))
  document-same (object a) (object b) p = ap object (members-same a b (ap second p))
  document-same a b p = (let h = ap (λ g. number_of (first g)) p in absurd (omega (arith, h)))

  documents-same : (a b : Documents) → of_documents a ≡ of_documents b → a ≡ b
  documents-same no_documents no_documents p = refl
  documents-same (document a as') (document b bs) p = ap₂ document (document-same a b (ap first p)) (documents-same as' bs (ap second p))
  documents-same _ _ p = cc

  members-same : (a b : Members) → of_members a ≡ of_members b → a ≡ b
  members-same no_members no_members p = refl
  members-same (member k a as') (member l b bs) p =
      let key = coded_text.inj k l (ap (λ g. first (first g)) p) in
      let value = document-same a b (ap (λ g. second (first g)) p) in
      let rest = members-same as' bs (ap second p) in
      λ i. member (key i) (value i) (rest i)
  members-same _ _ p = cc

abbrev pub coded_document : Coded Document
coded_document = record { code = of_document; inj = document-same }
