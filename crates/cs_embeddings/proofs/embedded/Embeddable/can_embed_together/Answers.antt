use Rattle.std.proofs.Common.{◌≤◌, not, refl, sym, ap, ◌∙◌, arith}
use Rattle.cs_embeddings.specs.Alternatives.{most_steps}
use Rattle.cs_embeddings.specs.Checks.{bodies_view}
use Rattle.cs_embeddings.proofs.Operands.{together_can, shut_cannot}
use Rattle.cs_embeddings.proofs.embedded.Embeddable.can_embed_together.Goals as goal

pub returns-then-not-any_shut : goal.returns-then-not-any_shut
returns-then-not-any_shut c ds told tells =
    let low : 127 ≤ 128 = omega arith in
    together_can ds most_steps 127 (bodies_view c.args.operands.now) refl c.can_embed_bodies.result (ap not (sym c.any_shut.ensures ∙ c.if-not-any_shut.true))
    (c.can_embed_bodies.ensures ds most_steps told tells low)

pub returns-else-not-any_shut : goal.returns-else-not-any_shut
returns-else-not-any_shut c ds told tells =
    ap not c.if-not-any_shut.false ∙ shut_cannot ds most_steps 127 (bodies_view c.args.operands.now) refl (ap not (sym c.any_shut.ensures ∙ c.if-not-any_shut.false))
