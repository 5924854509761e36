use Rattle.cs_embeddings.proofs.WrittenFiles.{joined_written}
use Rattle.cs_embeddings.proofs.laws.joined_files_can_be_written.Goals as goal

pub returns : goal.returns
returns c fs gs h j = joined_written fs gs h j
