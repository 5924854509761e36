use Rattle.std.proofs.Common.{is_some, ap}
use Rattle.std.proofs.lemmas.Result.{IfOk-weaker}
use Rattle.cs_question.proofs.Whole.{no_kind}
use Rattle.cs_question.proofs.cases.document_of.Goals as goal

pub returns : goal.returns
returns c = IfOk-weaker c.map_of.result _ _ (λ o f none. no_kind c.args.nodes.now c.args.table.now c.args.asked.now (c.in_ok-doc.ensures (ap is_some c.in_default.is)) (c.in_ok-list.ensures (ap is_some c.in_default-2.is)) (f none)) c.map_of.ensures
