use Rattle.std.specs.Prelude.{codes}
use Rattle.std.proofs.Common.{◌≡◌, ap, ◌∙◌}
use Rattle.std.proofs.lemmas.Result.{IfOk-weaker}
use Rattle.cs_document.specs.Document.{object}
use Rattle.cs_document.specs.View.{documents_of}
use Rattle.cs_profile.specs.SchemaDocument.{schema_view, schemas_view, slots_of, present, set_slot, unless_no_list, value_at}
use Rattle.cs_profile.specs.declared.keyword.Form.TheVariants as form
use Rattle.cs_compile.specs.Slots.{typed, least_count}
use Rattle.cs_compile.specs.Translation.{list_schema}
use Rattle.cs_compile.proofs.Slots.{list_slots}
use Rattle.cs_compile.proofs.elements.list_schema.Goals as goal

pub returns : goal.returns
returns c =
    let ds = schemas_view c.args.front.items in
    let rest = value_at form.Schema c.args.items in
    let counted : slots_of c.set.result ≡ set_slot (codes "minItems") (least_count ds) (typed (codes "array")) =
    c.set.ensures ∙ ap (λ o. set_slot (codes "minItems") o (slots_of c.typed.result)) c.least_count-count.ensures ∙ ap (set_slot (codes "minItems") (least_count ds)) c.typed.ensures in
    let made : object (present (slots_of c.set-keywords.result)) ≡ list_schema (documents_of ds) rest =
    ap (λ ss. object (present ss)) (c.set-keywords.ensures ∙ ap (set_slot (codes "items") rest) (c.set-2.ensures ∙ ap (set_slot (codes "prefixItems") (unless_no_list ds)) counted)) ∙ list_slots ds rest in
    IfOk-weaker c.object.result (λ s. schema_view s ≡ object (present (slots_of c.set-keywords.result))) (λ s. schema_view s ≡ list_schema (documents_of ds) rest) (λ s seen. seen ∙ made) c.object.ensures
