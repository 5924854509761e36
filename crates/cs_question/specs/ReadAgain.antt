-- Documents whose texts can be read.
use Rattle.cs_document.specs.Document.{Document, IsDocument}
use Rattle.cs_json.specs.Texts.{Reads, text_of}

-- a document that its text is read as
pub record IsReadAgain (x : Document) : Type 0 where
  pub document : IsDocument x
  pub read : Reads (text_of x) x
