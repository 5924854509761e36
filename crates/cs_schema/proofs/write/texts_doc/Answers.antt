use Rattle.std.proofs.Common.{map, take, Some, sym, ap, ◌∙◌}
use Rattle.std.proofs.lemmas.List.{take_all}
use Rattle.cs_document.specs.Document.{list, text}
use Rattle.cs_document.specs.View.{doc_view, documents_of}
use Rattle.cs_document.proofs.Maps.{take_at}
use Rattle.cs_document.proofs.Views.{view-List, view-Text}
use Rattle.cs_profile.specs.SchemaDocument.{text_document}
use Rattle.cs_schema.proofs.Walks.{not_nil}
use Rattle.cs_schema.proofs.Writing.{mapped_more, some_listed}
use Rattle.cs_schema.proofs.write.texts_doc.Goals as goal

pub loop-text-preserved : goal.loop-text-preserved
loop-text-preserved c =
    let l = c.loop-text in
    let xs = c.deref-text-items.result.now in
    let x = c.text-item.result in
    ap (map doc_view) c.in_ok-push.ensures.items
    ∙ mapped_more doc_view text_document l.docs.items (take l.text-index xs) _ x l.invariant (view-Text _ ∙ ap text c.in_ok-clone.ensures.cases)
    ∙ ap (map text_document) (sym (take_at xs l.text-index x c.loop-text-test.true c.text-item.is))

pub returns : goal.returns
returns c =
    let l = c.loop-text in
    let xs = c.args.texts.now.items in
    let all = take_all l.text-index c.deref-text-items.result.now c.loop-text-test.false ∙ c.deref-text-items.ensures.value in
    ap Some (view-List l.docs ∙ ap (λ ds. list (documents_of ds)) (l.invariant ∙ ap (map text_document) all))
    ∙ sym (some_listed text_document xs (not_nil xs _ c.args.texts.now.ok.0 (sym c.is_empty.ensures ∙ c.if-is_empty.false)))
