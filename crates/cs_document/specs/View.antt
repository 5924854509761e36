-- The document that a `Doc` is.
use Rattle.std.specs.Prelude.{List, [], ◌∷◌, map, String, string_bytes}
use Rattle.std.specs.declared.alloc.Global.{Global}
use Rattle.cs_document.specs.Document.{Document, null, boolean, integer, text, list, object, Documents, no_documents, document, Members, no_members, member}
use Rattle.cs_document.specs.declared.doc.Doc.{Doc, fold-Doc}
use Rattle.cs_document.specs.declared.doc.Doc.TheOpen.{Doc-F}

abbrev pub documents_of : List Document → Documents
documents_of [] = no_documents
documents_of (d ∷ ds) = document d (documents_of ds)

abbrev pub members_of : List (String Global × Document) → Members
members_of [] = no_members
members_of (m ∷ ms) = member (string_bytes m.0) m.1 (members_of ms)

-- one level, with each value inside already seen as its document
abbrev pub doc_step : Doc-F Document → Document
doc_step Doc-F.Null = null
doc_step (Doc-F.Bool b) = boolean b
doc_step (Doc-F.Int n) = integer n
doc_step (Doc-F.Text s) = text (string_bytes s)
doc_step (Doc-F.List v) = list (documents_of v.items)
doc_step (Doc-F.Object m) = object (members_of m.entries)

abbrev pub doc_view : Doc → Document
doc_view = fold-Doc Document doc_step

abbrev pub list_view : List Doc → Documents
list_view ds = documents_of (map doc_view ds)

-- for private contracts alone
abbrev pub object_view : List (String Global × Doc) → Members
object_view ms = members_of (map (λ m. (m.0, doc_view m.1)) ms)
