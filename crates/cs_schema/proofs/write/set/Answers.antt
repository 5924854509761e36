use Rattle.std.proofs.Common.{◌∙◌, sym, ap, option_map}
use Rattle.cs_document.specs.Document.{put}
use Rattle.cs_document.specs.View.{doc_view, object_view}
use Rattle.cs_document.proofs.Views.{object_view-insert_entry}
use Rattle.cs_schema.specs.Writing.{put_some}
use Rattle.cs_schema.proofs.write.set.Goals as goal

pub returns : goal.returns
returns c =
    let old = object_view c.args.members.now.entries in
    ap object_view c.in_ok-insert.ensures.entries
    ∙ object_view-insert_entry c.args.members.now.entries c.in_ok-from_str.field-0 c.in-Some.value
    ∙ ap (λ k. put k (doc_view c.in-Some.value) old) c.in_ok-from_str.ensures.ok
    ∙ ap (λ o. put_some c.args.name.now (option_map doc_view o) old) (sym c.in-Some.is)
