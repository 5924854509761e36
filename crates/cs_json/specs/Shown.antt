-- The texts of documents with nothing hidden in them.
use Rattle.std.specs.Prelude.{◌≡◌, ℕ, List}
use Rattle.std.specs.Str.{NoCharPasses}
use Rattle.cs_document.specs.Document.{Document}
use Rattle.cs_json.specs.Texts.{Reads, text_of}
use Rattle.cs_place.specs.Shown.{is_hidden, shown}

-- the bytes are the text of the document with each hidden character in its escape, none is left, and they are read as the document
pub record IsShown (d : Document) (bytes : List ℕ) : Type 0 where
  pub text : bytes ≡ shown (text_of d)
  pub plain : NoCharPasses is_hidden bytes
  pub read : Reads bytes d
