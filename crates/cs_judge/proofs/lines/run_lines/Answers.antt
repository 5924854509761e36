use Rattle.std.proofs.Common.{refl, inr, arith}
use Rattle.cs_judge.proofs.LineLists.{if_err}
use Rattle.cs_judge.proofs.LineRuns.{nothing_read}
use Rattle.cs_judge.proofs.RulesRefused.{not_of_rules}
use Rattle.cs_judge.proofs.lines.run_lines.Goals as goal

pub answer_chunks-requires-clause-start : goal.answer_chunks-requires-clause-start
answer_chunks-requires-clause-start g c =
    nothing_read _ _ _ (c.new-bytes.ensures.items, omega arith) c.in_ok-held.ensures refl refl

pub returns-clause-unread : goal.returns-clause-unread
returns-clause-unread g c = not_of_rules _ c.answer_chunks.result c.answer_chunks.ensures.kind

pub returns-clause-only : goal.returns-clause-only
returns-clause-only g c = if_err c.answer_chunks.result (λ e h. inr h) c.answer_chunks.ensures.kind
