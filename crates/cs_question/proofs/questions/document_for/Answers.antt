use Rattle.cs_question.proofs.Answered.{no_document}
use Rattle.cs_question.proofs.questions.document_for.Goals as goal

pub returns-then-is_shut_at-clause-none : goal.returns-then-is_shut_at-clause-none
returns-then-is_shut_at-clause-none c = λ e J m x d h.
    no_document c.args.nodes.now c.in_ok-table.table c.in_ok-table.ensures.ended c.in_ok-table.ensures.rest J m c.args.asked.now (c.is_shut_at.ensures c.if-is_shut_at.true) x d h
