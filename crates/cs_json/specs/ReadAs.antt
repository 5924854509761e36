-- Which document was read from a text.
use Rattle.cs_document.specs.Document.{Document}
use Rattle.cs_document.specs.View.{doc_view}
use Rattle.cs_flat.specs.Listed.{document_in}
use Rattle.cs_json.specs.declared.document.Document.{Document as Read}
use Rattle.cs_json.specs.declared.document.Document.TheVariants.{Listed, Tree}

abbrev pub read_as : Read → Document
read_as (Listed f) = document_in f
read_as (Tree d) = doc_view d
