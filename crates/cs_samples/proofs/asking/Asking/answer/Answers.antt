use Rattle.std.proofs.Common.{rules}
use Rattle.cs_document.specs.View.{doc_view}
use Rattle.cs_samples.specs.Sample.{IsAsAsked}
use Rattle.cs_samples.proofs.asking.Asking.answer.Goals as goal

pub returns-in-Some-2 : goal.returns-in-Some-2
returns-in-Some-2 c =
    let asked : IsAsAsked c.args.self.now.«package».now c.args.self.now.root.now c.args.self.now.which (doc_view c.in-Some.doc) = search rules in
    (doc_view c.in-Some.doc, (rw c.in-Some.is at c.in_ok-doc.ensures, asked), rw c.in-Some-2.is at c.in_ok-text.ensures)
