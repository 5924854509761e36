use Rattle.std.proofs.Common.{codes, arith}
use Rattle.cs_reason_words.proofs.LineEnds.{ends_behind}
use Rattle.cs_reason_words.proofs.form.put_more.Goals as goal

pub returns : goal.returns
returns c = ends_behind _ _ (codes " more; --most N tells mor") 101 (λ e. omega arith) c.in_ok-push_str.ensures.bytes
