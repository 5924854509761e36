use Rattle.std.proofs.Common.{refl, sym, ◌∙◌}
use Rattle.std.specs.List.{filter}
use Rattle.cs_embeddings.specs.ClashTable.{is_beside}
use Rattle.cs_embeddings.specs.Views.{brought_view}
use Rattle.cs_embeddings.proofs.Clashing.{started, with_own}
use Rattle.cs_embeddings.proofs.clashes.Group.with.Goals as goal

pub returns-then-is_same_embedding : goal.returns-then-is_same_embedding
returns-then-is_same_embedding c before told =
    let f = c.unwrap_or-first.result in
    let w = started c.args.self c.args.brought before told f c.unwrap_or-first.ensures in
    with_own c.args.self c.args.brought before told f c.unwrap_or-first.ensures c.with.result (sym c.is_same_embedding.ensures ∙ c.if-is_same_embedding.true)
    (c.with.ensures (filter (is_beside (brought_view f)) before) (brought_view c.args.brought) refl w.1.own)
