use Rattle.std.proofs.Common.{refl, sym, ◌∙◌}
use Rattle.std.specs.List.{list_all}
use Rattle.cs_grammar.specs.View.{expr_view}
use Rattle.cs_embeddings.specs.Checks.{bodies_view}
use Rattle.cs_embeddings.specs.Embedded.{can_be_embedded}
use Rattle.cs_embeddings.proofs.Walks.{well_more, one_ill, all_well, body_parts}
use Rattle.cs_embeddings.proofs.embedded.Embeddable.can_embed_bodies.Goals as goal

pub loop-body-init : goal.loop-body-init
loop-body-init c ds most told tells low = refl

pub returns-then-not-can_embed : goal.returns-then-not-can_embed
returns-then-not-can_embed c ds most told tells low =
    one_ill (λ es. list_all (can_be_embedded ds c.args.steps) (bodies_view es)) (λ e. can_be_embedded ds c.args.steps (expr_view e.now)) (body_parts (can_be_embedded ds c.args.steps))
    c.args.bodies.now c.loop-body.body-index (c.loop-body.invariant ds most told tells low)
    c.body-item.result c.loop-body-test.true c.body-item.is (sym (c.can_embed.ensures ds most told tells low) ∙ c.if-not-can_embed.true)

pub loop-body-preserved : goal.loop-body-preserved
loop-body-preserved c ds most told tells low =
    well_more (λ es. list_all (can_be_embedded ds c.args.steps) (bodies_view es)) (λ e. can_be_embedded ds c.args.steps (expr_view e.now)) (body_parts (can_be_embedded ds c.args.steps))
    c.args.bodies.now c.loop-body.body-index (c.loop-body.invariant ds most told tells low)
    c.body-item.result c.loop-body-test.true c.body-item.is (sym (c.can_embed.ensures ds most told tells low) ∙ c.if-not-can_embed.false)

pub returns : goal.returns
returns c ds most told tells low =
    all_well (λ es. list_all (can_be_embedded ds c.args.steps) (bodies_view es)) (λ e. can_be_embedded ds c.args.steps (expr_view e.now)) (body_parts (can_be_embedded ds c.args.steps))
    c.args.bodies.now c.loop-body.body-index (c.loop-body.invariant ds most told tells low)
    refl c.loop-body-test.false
