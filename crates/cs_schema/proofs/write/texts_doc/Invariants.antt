use Rattle.std.proofs.Common.{◌≡◌, map, take}
use Rattle.cs_document.specs.View.{doc_view}
use Rattle.cs_profile.specs.SchemaDocument.{text_document}
use Rattle.cs_schema.proofs.write.texts_doc.Given as goal

abbrev pub invariant-loop-text : goal.invariant-loop-text
invariant-loop-text l = map doc_view l.docs.items ≡ map text_document (take l.text-index l.text-items)
