-- An order of documents, by which look-ups halve. JSON gives documents none; it is `Equal` just for the same document.
use Rattle.std.specs.Prelude.{ℕ}
use Rattle.std.specs.declared.cmp.Ordering.{Ordering}
use Rattle.std.specs.declared.cmp.Ordering.TheVariants.{Less, Equal, Greater}
use Rattle.std.specs.Ordering.{nat_cmp, int_cmp, bool_cmp, ordering_then}
use Rattle.std.specs.Cmp.Lexicographic.{slice_cmp}
use Rattle.cs_document.specs.Document.{Document, null, boolean, integer, text, list, object, Documents, no_documents, document, Members, no_members, member}

-- null, truth values, integers, texts, lists, maps
abbrev pub kind : Document → ℕ
kind null = 0
kind (boolean b) = 1
kind (integer z) = 2
kind (text s) = 3
kind (list ds) = 4
kind (object ms) = 5

-- by kind; then false before true, integers by value, texts by their bytes, lists element by element, and maps member by
-- member, by key and then by value. A list or map that is the start of another is before it.
abbrev mutual
  pub document_cmp : Document → Document → Ordering
  document_cmp null null = Equal
  document_cmp (boolean a) (boolean b) = bool_cmp a b
  document_cmp (integer a) (integer b) = int_cmp a b
  document_cmp (text a) (text b) = slice_cmp nat_cmp a b
  document_cmp (list a) (list b) = documents_cmp a b
  document_cmp (object a) (object b) = members_cmp a b
  document_cmp a b = nat_cmp (kind a) (kind b)

  pub documents_cmp : Documents → Documents → Ordering
  documents_cmp no_documents no_documents = Equal
  documents_cmp no_documents (document b bs) = Less
  documents_cmp (document a as') no_documents = Greater
  documents_cmp (document a as') (document b bs) = ordering_then (document_cmp a b) (documents_cmp as' bs)

  pub members_cmp : Members → Members → Ordering
  members_cmp no_members no_members = Equal
  members_cmp no_members (member l b bs) = Less
  members_cmp (member k a as') no_members = Greater
  members_cmp (member k a as') (member l b bs) = ordering_then (ordering_then (slice_cmp nat_cmp k l) (document_cmp a b)) (members_cmp as' bs)
