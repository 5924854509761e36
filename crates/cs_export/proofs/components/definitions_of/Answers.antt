use Rattle.std.proofs.Common.{◌≡◌, Some, option_map, sym, ap, ◌∙◌, rules}
use Rattle.cs_document.specs.Document.{no_members}
use Rattle.cs_document.specs.View.{doc_view, object_view}
use Rattle.cs_document.specs.declared.doc.Doc.{the_lemmas}
use Rattle.cs_document.proofs.Views.{view-Object}
use Rattle.cs_export.specs.Components.{map_in}
use Rattle.cs_export.proofs.Found.{definitions_found}
use Rattle.cs_export.proofs.components.definitions_of.Goals as goal

pub returns-in_default-remove : goal.returns-in_default-remove
returns-in_default-remove c =
    let found = definitions_found c.args.schema c.in-Object.members c.remove.result c.in-Object.is c.remove.ensures.value in
    ap object_view c.new-in_default-remove.ensures.empty ∙ sym (found ∙ ap (λ o. map_in (option_map doc_view o)) c.in_default-remove.is)

pub returns-in_default-definitions : goal.returns-in_default-definitions
returns-in_default-definitions c =
    let found = definitions_found c.args.schema c.in-Object.members c.remove.result c.in-Object.is c.remove.ensures.value in
    let other = c.in_default-definitions.not-Object in
    let none : map_in (Some (doc_view c.in-Some.definitions)) ≡ no_members = search (rules, the_lemmas) in
    ap object_view c.new-in_default-definitions.ensures.empty ∙ sym (found ∙ ap (λ o. map_in (option_map doc_view o)) c.in-Some.is ∙ none)

pub returns : goal.returns
returns c =
    let found = definitions_found c.args.schema c.in-Object.members c.remove.result c.in-Object.is c.remove.ensures.value in
    let is = ap doc_view c.in-Object-definitions.is ∙ view-Object c.in-Object-definitions.definitions in
    sym (found ∙ ap (λ o. map_in (option_map doc_view o)) c.in-Some.is ∙ ap (λ d. map_in (Some d)) is)
