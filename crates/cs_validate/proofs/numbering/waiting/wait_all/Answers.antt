use Rattle.std.proofs.Common.{◌∷◌, [], ◌++◌, take, take_all, sym, ap, ◌∙◌}
use Rattle.std.proofs.lemmas.List.{map-append}
use Rattle.cs_document.proofs.Maps.{take_at}
use Rattle.cs_profile.specs.SchemaDocument.{schema_view, schemas_view}
use Rattle.cs_validate.specs.Placing.{waiting}
use Rattle.cs_validate.proofs.Waits.{waits_push}
use Rattle.cs_validate.proofs.numbering.waiting.wait_all.Goals as goal

pub loop-schema-preserved : goal.loop-schema-preserved
loop-schema-preserved c =
    let l = c.loop-schema in
    let xs = c.args.schemas.now in
    let x = c.schema-item.result in
    let first = waiting c.args.pending.now.items in
    let done = take l.schema-index xs in
    waits_push first (schemas_view done) l.pending.items c.push.new.self.items _ c.in_ok-push.ensures.items l.invariant
    ∙ ap (λ ss. first ++ ss) (sym (ap schemas_view (take_at xs l.schema-index x c.loop-schema-test.true c.schema-item.is) ∙ map-append schema_view done (x ∷ [])))

pub returns : goal.returns
returns c =
    let l = c.loop-schema in
    l.invariant ∙ ap (λ xs. waiting c.args.pending.now.items ++ schemas_view xs) (take_all l.schema-index c.args.schemas.now c.loop-schema-test.false)
