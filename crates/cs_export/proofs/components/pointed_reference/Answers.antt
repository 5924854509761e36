use Rattle.std.proofs.Common.{◌≡◌, ◌++◌, sym, ap, ◌∙◌}
use Rattle.std.specs.Option.{option_map_or}
use Rattle.cs_document.specs.Document.{text}
use Rattle.cs_document.specs.View.{doc_view}
use Rattle.cs_document.proofs.Views.{view-Text}
use Rattle.cs_profile.specs.Keywords.{reference_start}
use Rattle.cs_schema.proofs.Named.{after_start, after_none}
use Rattle.cs_export.specs.Components.{component_start, to_component, moved_reference}
use Rattle.cs_export.proofs.components.pointed_reference.Goals as goal

pub returns-in_ok-format-in-Some : goal.returns-in_ok-format-in-Some
returns-in_ok-format-in-Some c =
    let t = c.deref.result.now in
    let n = c.in-Some.name.now in
    let is : doc_view c.args.value ≡ text t = ap doc_view c.in-Text.is ∙ view-Text c.in-Text.target ∙ ap text (sym c.deref.ensures) in
    let start : t ≡ reference_start ++ n = c.in-Some.ensures.cases.1.1 ∙ ap (λ r. reference_start ++ r) (sym c.in-Some.ensures.cases.2) in
    view-Text c.in_ok-format-in-Some.field-0 ∙ ap text c.in_ok-format-in-Some.ensures.ok
    ∙ sym (ap (moved_reference to_component) is ∙ ap (λ o. text (option_map_or (λ n. component_start ++ n) o t)) (after_start reference_start n t start))

pub returns-in-None : goal.returns-in-None
returns-in-None c =
    let t = c.deref.result.now in
    let is : doc_view c.args.value ≡ text t = ap doc_view c.in-Text.is ∙ view-Text c.in-Text.target ∙ ap text (sym c.deref.ensures) in
    view-Text c.in-Text.target ∙ ap text (sym c.deref.ensures)
    ∙ sym (ap (moved_reference to_component) is ∙ ap (λ o. text (option_map_or (λ n. component_start ++ n) o t)) (after_none reference_start t c.in-None.ensures.cases))
