use Rattle.std.proofs.Common.{◌≤◌, sym, ap, subst, ◌∙◌}
use Rattle.std.proofs.lemmas.Result.{err_from_is_err_and}
use Rattle.cs_document.specs.Document.{depth}
use Rattle.cs_json.specs.Texts.{Reads, text_of}
use Rattle.cs_tool.specs.Conversions.{of_document, of_schema}
use Rattle.cs_tool.proofs.exports.text_of_schema.Goals as goal

pub returns-in_err-doc-clause-memory : goal.returns-in_err-doc-clause-memory
returns-in_err-doc-clause-memory c =
    let p = err_from_is_err_and c.from_residual.result c.from_residual.ensures.1 in
    rw (p.1, p.2) (ap of_schema c.in_err-doc.ensures.memory)

pub returns-in_err-write_doc-clause-memory : goal.returns-in_err-write_doc-clause-memory
returns-in_err-write_doc-clause-memory c =
    let p = err_from_is_err_and c.from_residual-in_err-write_doc.result c.from_residual-in_err-write_doc.ensures.1 in
    rw (p.1, p.2) (ap of_document c.in_err-write_doc.ensures.memory)

pub returns-clause-found : goal.returns-clause-found
returns-clause-found c =
    let same = c.in_ok-doc.ensures.found in
    let written = c.in_ok-write_doc.ensures in
    (written.text ∙ ap text_of same, λ nested. subst (Reads _) same (written.reads (subst (λ d. depth d ≤ 127) (sym same) nested)))
