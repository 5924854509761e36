use Rattle.std.proofs.Common.{◌≡◌, ◌↔◌, IsTrue, sym, ap, ◌∙◌, subst}
use Rattle.std.specs.Ordering.{is_eq}
use Rattle.cs_document.specs.View.{doc_view}
use Rattle.cs_document.specs.Equality.{document_eq-Decides}
use Rattle.cs_document.specs.TotalOrder.{document_cmp-eq}
use Rattle.cs_document.proofs.equal.DocPartialEq.eq.Goals as goal

-- the order says `Equal` just of the same document
pub returns-clause-gives : goal.returns-clause-gives
returns-clause-gives c =
    let a = doc_view c.args.self.now in
    let b = doc_view c.args.other.now in
    c.is_eq.ensures ∙ ap is_eq c.compare.ensures ∙ sym (document_cmp-eq a b)

pub returns-clause-same : goal.returns-clause-same
returns-clause-same c =
    let a = doc_view c.args.self.now in
    let b = doc_view c.args.other.now in
    subst (λ t. IsTrue t ↔ (a ≡ b)) (sym (returns-clause-gives c)) (document_eq-Decides a b)
