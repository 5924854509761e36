use Rattle.std.proofs.Common.{◌≡◌, ◌++◌, length, sym, ap, ◌∙◌, subst}
use Rattle.cs_document.specs.View.{doc_view}
use Rattle.cs_flat.specs.Items.{items, items_behind}
use Rattle.cs_flat.specs.Listed.{document_in, IsListed}
use Rattle.cs_flat.proofs.Flattened.{IsListed-items, document_in-items}
use Rattle.cs_flat.proofs.flattening.flatten.Goals as goal

pub finish-requires : goal.finish-requires
finish-requires c =
    let d = doc_view c.args.doc.now in
    let facts = c.in_ok-push_doc.ensures in
    let are : c.push_doc.new.builder ≡ items d = facts.items ∙ ap (λ old. old ++ items_behind (length old) d) c.new-builder.ensures in
    subst (λ xs. IsListed (document_in xs) xs) (sym are) (subst (λ e. IsListed e (items d)) (sym (document_in-items d facts.document)) (IsListed-items d facts.document))

pub returns-clause-found : goal.returns-clause-found
returns-clause-found c =
    let d = doc_view c.args.doc.now in
    let facts = c.in_ok-push_doc.ensures in
    ap document_in (c.finish.ensures ∙ facts.items ∙ ap (λ old. old ++ items_behind (length old) d) c.new-builder.ensures) ∙ document_in-items d facts.document
