use Rattle.std.specs.Prelude.{codes}
use Rattle.std.proofs.Common.{◌≡◌, ◌<◌, length, ap, ◌∙◌, arith}
use Rattle.std.proofs.lemmas.Grind.{common_steps}
use Rattle.std.proofs.lemmas.Result.{IfOk-weaker}
use Rattle.cs_document.specs.Document.{object}
use Rattle.cs_document.specs.View.{documents_of}
use Rattle.cs_profile.specs.SchemaDocument.{schema_view, schemas_view, slots_of, present, set_slot, unless_no_list}
use Rattle.cs_compile.specs.Translation.{any_of}
use Rattle.cs_compile.proofs.Slots.{any_of-slots}
use Rattle.cs_compile.proofs.operands.any_of.Goals as goal

pub returns : goal.returns
returns c =
    let ds = schemas_view c.args.schemas.items in
    let some : 0 < length ds = grind (arith, common_steps, c.args.schemas.ok, c.is_empty.ensures, c.if-is_empty.false) in
    let made : object (present (slots_of c.set.result)) ≡ any_of (documents_of ds) =
    ap (λ ss. object (present ss)) (c.set.ensures ∙ ap (set_slot (codes "anyOf") (unless_no_list ds)) c.untyped.ensures) ∙ any_of-slots ds some in
    IfOk-weaker c.object.result (λ s. schema_view s ≡ object (present (slots_of c.set.result))) (λ s. schema_view s ≡ any_of (documents_of ds)) (λ s seen. seen ∙ made) c.object.ensures
