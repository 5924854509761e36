use Rattle.std.proofs.Common.{sym, ap, ◌∙◌}
use Rattle.cs_document.specs.Document.{object}
use Rattle.cs_document.specs.View.{doc_view}
use Rattle.cs_document.proofs.Views.{view-Object}
use Rattle.cs_describe.specs.Described.{described_document}
use Rattle.cs_describe.proofs.describe.described_by.Goals as goal

pub returns : goal.returns
returns c =
    let w = c.args.note in
    let notes = c.args.notes.now.entries in
    view-Object c.in_ok-describe_root.field-0 ∙ ap object c.in_ok-describe_root.ensures
    ∙ sym (ap (λ d. described_document w notes (doc_view d)) c.in-Object.is ∙ ap (described_document w notes) (view-Object c.in-Object.members))
