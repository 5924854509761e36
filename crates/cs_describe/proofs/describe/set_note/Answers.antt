use Rattle.std.proofs.Common.{option_map, ◌∙◌, sym, ap}
use Rattle.cs_document.specs.Document.{put}
use Rattle.cs_document.specs.View.{doc_view, object_view}
use Rattle.cs_document.proofs.Views.{object_view-insert_entry}
use Rattle.cs_describe.specs.Described.{with_note}
use Rattle.cs_describe.proofs.describe.set_note.Goals as goal

pub returns : goal.returns
returns c =
    let w = c.args.note in
    let old = object_view c.args.members.now.entries in
    let v = c.in-Some.value in
    ap object_view c.in_ok-insert.ensures.entries
    ∙ object_view-insert_entry c.args.members.now.entries c.in_ok-name.name v
    ∙ ap (λ k. put k (doc_view v) old) (c.in_ok-name.ensures.ok ∙ c.name.ensures)
    ∙ sym (ap (λ o. with_note w (option_map doc_view o) old) c.in-Some.is)
