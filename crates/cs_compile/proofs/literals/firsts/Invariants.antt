use Rattle.std.proofs.Common.{◌≡◌, map, take}
use Rattle.cs_document.specs.Document.{document_eq}
use Rattle.cs_document.specs.View.{doc_view}
use Rattle.cs_compile.specs.Literals.{literal_view}
use Rattle.cs_compile.specs.Translation.{firsts}
use Rattle.cs_compile.proofs.SeenLiterals.{AreSeen}
use Rattle.cs_compile.proofs.literals.firsts.Given as goal

abbrev pub invariant-loop-literal : goal.invariant-loop-literal
invariant-loop-literal l = record {
  listed : map doc_view l.firsts.items ≡ firsts document_eq (map literal_view (take l.literal-index l.literals));
  seen : AreSeen l.seen (map literal_view (take l.literal-index l.literals));
}
