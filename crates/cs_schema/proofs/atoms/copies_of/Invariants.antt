use Rattle.std.proofs.Common.{◌≡◌, map, take}
use Rattle.cs_document.specs.View.{doc_view}
use Rattle.cs_schema.proofs.atoms.copies_of.Given as goal

abbrev pub invariant-loop-value : goal.invariant-loop-value
invariant-loop-value l = map doc_view l.docs.items ≡ map doc_view (take l.value-index l.value-items)
