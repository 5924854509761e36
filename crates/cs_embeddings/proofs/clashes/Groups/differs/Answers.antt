use Rattle.std.proofs.Common.{sym, ◌∙◌}
use Rattle.std.specs.List.{filter}
use Rattle.cs_embeddings.specs.Clashes.{may_open}
use Rattle.cs_embeddings.specs.Views.{brought_view}
use Rattle.cs_embeddings.proofs.Clashing.{some_open}
use Rattle.cs_embeddings.proofs.clashes.Groups.differs.Goals as goal

pub returns-else-may_open : goal.returns-else-may_open
returns-else-may_open c before is told =
    c.differs-else-may_open.ensures (filter may_open before) told.opening ∙ some_open before (brought_view c.args.brought) (sym is ∙ c.if-may_open.false)
