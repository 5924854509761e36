use Rattle.std.proofs.Common.{◌≡◌, ◌++◌, [], ◌∷◌, ◌∙◌, sym, ap, append_assoc, append-nil}
use Rattle.std.specs.BTreeMap.{values}
use Rattle.std.proofs.lemmas.List.{map-append}
use Rattle.std.proofs.lemmas.Simd.{map-map}
use Rattle.cs_profile.specs.SchemaDocument.{schema_view, schemas_view}
use Rattle.cs_validate.specs.Placing.{waiting}
use Rattle.cs_validate.proofs.Waits.{waits_push}
use Rattle.cs_validate.proofs.numbering.waiting.wait_values.Goals as goal

pub loop-schema-preserved : goal.loop-schema-preserved
loop-schema-preserved c =
    let l = c.loop-schema in
    let done = l.invariant.done in
    let s = c.in-Some.schema.now in
    let left = c.next.new.self in
    let first = waiting c.args.pending.now.items in
    let all : values c.args.schemas.now ≡ done ++ s ∷ left = l.invariant.all ∙ ap (λ ss. done ++ ss) c.in-Some.ensures.steps in record {
      done = done ++ s ∷ [];
      all = all ∙ sym (append_assoc done (s ∷ []) left);
      waits = waits_push first (schemas_view done) l.pending.items c.push.new.self.items _ c.in_ok-push.ensures.items l.invariant.waits ∙ ap (λ ss. first ++ ss) (sym (map-append schema_view done (s ∷ [])));
    }

pub returns : goal.returns
returns c =
    let l = c.loop-schema.invariant in
    let first = waiting c.args.pending.now.items in
    let all : values c.args.schemas.now ≡ l.done = l.all ∙ ap (λ ss. l.done ++ ss) c.in-None.ensures.steps.0 ∙ append-nil l.done in
    l.waits ∙ ap (λ ss. first ++ ss) (ap schemas_view (sym all) ∙ map-map schema_view (λ e. e.1) c.args.schemas.now.entries)
