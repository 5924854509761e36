use Rattle.std.proofs.Common.{refl, ◌∙◌}
use Rattle.cs_embeddings.proofs.Gathering.{one_more, or_same}
use Rattle.cs_embeddings.proofs.gathered.Together.add.Goals as goal

pub returns-clause-seen : goal.returns-clause-seen
returns-clause-seen c s bs told =
    one_more c.args.self.now _ s bs c.args.declared _ told refl refl c.mark_or-self.ensures
    (c.or-self.ensures ∙ or_same c.args.self.now.place c.args.declared.place) refl c.in_ok-push.ensures.items
