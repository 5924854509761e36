use Rattle.std.proofs.Common.{◌∙◌, sym, ap, ap₂, codes, Some, option_map}
use Rattle.cs_document.specs.Document.{object}
use Rattle.cs_document.specs.View.{doc_view}
use Rattle.cs_document.proofs.Views.{view-Object}
use Rattle.cs_profile.specs.SchemaDocument.{present, slots_of, unless_no_map, definitions_view}
use Rattle.cs_schema.specs.Writing.{put_some}
use Rattle.cs_schema.proofs.Writing.{document_put}
use Rattle.cs_schema.proofs.write.to_doc.Goals as goal

pub returns-in_ok-set-in-Object-2-clause-found : goal.returns-in_ok-set-in-Object-2-clause-found
returns-in_ok-set-in-Object-2-clause-found c =
    let definitions = option_map doc_view c.in_ok-definitions-in-Object.definitions in
    let keywords = c.in_ok-members-in-Object.ensures ∙ ap (λ k. present (slots_of k)) c.deref.ensures in
    let more = c.in_ok-set-in-Object.ensures ∙ ap (put_some (codes "$defs") definitions) keywords in
    view-Object c.set-in-Object.new.members
    ∙ ap object (c.in_ok-set-in-Object-2.ensures ∙ ap₂ (λ d ms. put_some (codes "$schema") (Some d) ms) c.in_ok-dialect-in-Object.ensures more)
    ∙ document_put c.args.schema.now c.in-Object.keywords definitions (sym c.root.ensures ∙ c.in-Object.is)
    (c.in_ok-definitions-in-Object.ensures ∙ ap (λ es. unless_no_map (definitions_view es)) c.definitions.ensures)
