use Rattle.std.proofs.Common.{◌++◌, ap, ◌∙◌}
use Rattle.json.specs.Layout.{pretty}
use Rattle.json.specs.Tree.{json_tokens}
use Rattle.serde_json.specs.Written.{outline}
use Rattle.cs_document.specs.View.{doc_view}
use Rattle.cs_json.specs.Texts.{data_of}
use Rattle.cs_json.proofs.Documents.{reads_back}
use Rattle.cs_json.proofs.write.write_pretty.Goals as goal

pub returns-clause-layout : goal.returns-clause-layout
returns-clause-layout c =
    let ts = json_tokens (outline (data_of (doc_view c.args.doc.now))) in
    c.into_inner.ensures.layout ∙ ap pretty (c.in_ok-write.ensures.tokens ∙ ap (λ us. us ++ ts) c.new-out.ensures)

pub returns-clause-reads : goal.returns-clause-reads
returns-clause-reads c shallow =
    let d = doc_view c.args.doc.now in
    let made = c.in_ok-write.ensures.tokens ∙ ap (λ us. us ++ json_tokens (outline (data_of d))) c.new-out.ensures in
    (c.into_inner.ensures.utf8, reads_back d c.into_inner.result.items c.in_ok-write.ensures.document shallow (c.into_inner.ensures.value ∙ made))
