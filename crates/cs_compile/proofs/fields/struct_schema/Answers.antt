use Rattle.std.proofs.Common.{◌≡◌, ◌∙◌, subst}
use Rattle.std.specs.Result.{IfOk}
use Rattle.cs_document.specs.Document.{object}
use Rattle.cs_profile.specs.SchemaDocument.{definitions_view, schema_view, schemas_view}
use Rattle.cs_compile.specs.Grouped.{declarations_at}
use Rattle.cs_compile.proofs.Grouped.{joined_is}
use Rattle.cs_compile.proofs.Parts.{struct_is}
use Rattle.cs_compile.proofs.fields.struct_schema.Goals as goal

pub returns : goal.returns
returns c = λ ns are.
    let ds = declarations_at ns c.args.parts.now in
    struct_is c.object.result ds c.args.opened (schemas_view c.args.values.every.items) (definitions_view c.in_ok-properties.properties.entries) c.in_ok-labels.labels.items
    are.every (c.in_ok-properties.ensures ∙ joined_is _ _ are.grouped) (c.in_ok-labels.ensures ns)
    (subst (λ ms. IfOk c.object.result (λ s. schema_view s ≡ object ms)) c.struct_keywords-keywords.ensures c.object.ensures)
