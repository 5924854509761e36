use Rattle.cs_embeddings.proofs.narrowed.Narrowing.of.Goals as goal

pub loop-name-preserved : goal.loop-name-preserved
loop-name-preserved c ds tables = c.in_ok-add.ensures ds tables (c.loop-name.invariant ds tables)
