use Rattle.std.proofs.Common.{[], ◌∷◌, refl, ap₂, ◌∙◌, subst}
use Rattle.cs_embeddings.specs.Alternatives as Spec
use Rattle.cs_embeddings.specs.Alternatives.{most_steps, nothing}
use Rattle.cs_embeddings.specs.Checks.{bodies_view, ReachesAll}
use Rattle.cs_embeddings.proofs.Operands.{each_can, joined_in_turn}
use Rattle.cs_embeddings.proofs.joining.Joining.united.Goals as goal

pub returns : goal.returns
returns c ds tells can =
    let ts = bodies_view c.args.operands.now in
    let made = ap₂ (λ q a. Spec.join_bodies (Spec.alternatives ds 127) q ts (a ∷ [])) c.itself.ensures.seen c.nothing.ensures
    ∙ joined_in_turn ds most_steps 127 ts refl can (Spec.itself c.args.place) nothing in
    subst (λ xs. ReachesAll c.join_values.result c.args.self.room xs) made (c.join_values.ensures ds tells (each_can ds most_steps 127 ts refl can))
