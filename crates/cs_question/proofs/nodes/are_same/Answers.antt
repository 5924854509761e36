use Rattle.std.proofs.Common.{rules}
use Rattle.std.proofs.lemmas.Slice.Eq.{slice_eq-Decides}
use Rattle.cs_question.proofs.nodes.are_same.Goals as goal

pub returns : goal.returns
returns c = λ e. (slice_eq-Decides (search rules) _ _ _ c.eq.ensures).0 e
