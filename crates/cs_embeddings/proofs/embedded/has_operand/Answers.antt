use Rattle.std.proofs.Common.{not, ap, ◌∙◌}
use Rattle.cs_embeddings.proofs.Walks.{operand_there}
use Rattle.cs_embeddings.proofs.embedded.has_operand.Goals as goal

pub returns : goal.returns
returns c = ap not c.is_empty.ensures ∙ operand_there c.args.operands.now
