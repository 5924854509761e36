use Rattle.std.proofs.lemmas.Result.{err_from_is_err_and}
use Rattle.cs_grammar.specs.Limits.{most_height}
use Rattle.cs_grammar.specs.View.{definition_view}
use Rattle.cs_embeddings.proofs.FileParts.{own_definition, definition_clashes, definitions_made, definitions_unmade}
use Rattle.cs_embeddings.proofs.JoinedParts.{of_map}
use Rattle.cs_embeddings.proofs.Parts.{all_at, one_made, all_made, none_more}
use Rattle.cs_embeddings.specs.GatheredTable.{IsSound, body_view}
use Rattle.cs_embeddings.specs.Made.{IsBodyWell}
use Rattle.cs_embeddings.proofs.files.joined_definitions.Goals as goal

pub returns-in_err-joined_definition : goal.returns-in_err-joined_definition
returns-in_err-joined_definition c ds tells well sounds wells =
    let p = err_from_is_err_and c.from_residual-in_err-joined_definition.result c.from_residual-in_err-joined_definition.ensures.1 in
    let ks = c.args.bodies.now in let i = c.loop-body.body-index in let k = c.body-item.result in let l = c.loop-body-test.true in let is = c.body-item.is in
    let e = c.in_err-joined_definition.field-0.0 in let file = c.args.joiner.file in let nodes = c.args.nodes.now in
    let sound = all_at (λ k. IsSound ds k.standing) ks i k l is sounds in
    let one = all_at (λ k. IsBodyWell ds (body_view k)) ks i k l is (of_map (IsBodyWell ds) body_view ks wells) in
    rw (p.1, p.2)
    (definitions_unmade ds ks nodes e file
    (none_more definition_view (own_definition ds) _ _
    (definition_clashes ds) most_height nodes ks i k l is
    c.loop-body.nodes c.loop-body.joined.items (c.loop-body.invariant ds tells well sounds wells) e file
    (c.in_err-joined_definition.ensures ds tells well sound one)))

pub loop-body-preserved : goal.loop-body-preserved
loop-body-preserved c ds tells well sounds wells =
    let ks = c.args.bodies.now in let i = c.loop-body.body-index in let k = c.body-item.result in let l = c.loop-body-test.true in let is = c.body-item.is in
    let sound = all_at (λ k. IsSound ds k.standing) ks i k l is sounds in
    let one = all_at (λ k. IsBodyWell ds (body_view k)) ks i k l is (of_map (IsBodyWell ds) body_view ks wells) in
    one_made definition_view (own_definition ds) _ _ (definition_clashes ds) most_height c.args.nodes.now ks i k l is
    c.loop-body.nodes c.joined_definition.new.nodes c.loop-body.joined.items _ c.in_ok-joined_definition.field-0 c.in_ok-push.ensures.items
    (c.loop-body.invariant ds tells well sounds wells) (c.in_ok-joined_definition.ensures ds tells well sound one)

pub returns : goal.returns
returns c ds tells well sounds wells =
    let ks = c.args.bodies.now in let i = c.loop-body.body-index in let nodes = c.args.nodes.now in let rest = c.loop-body.nodes in
    let made = c.loop-body.joined.items in
    definitions_made ds ks nodes rest made
    (all_made definition_view (own_definition ds) _ _ (definition_clashes ds) most_height nodes ks i c.loop-body-test.false
    rest made (c.loop-body.invariant ds tells well sounds wells))
