use Rattle.cs_widen.proofs.Embedding.{embeddings_read_directly}
use Rattle.cs_widen.proofs.laws.embeddings_are_read_directly.Goals as goal

pub returns : goal.returns
returns c = embeddings_read_directly
