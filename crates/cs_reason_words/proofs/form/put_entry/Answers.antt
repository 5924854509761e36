use Rattle.std.proofs.Common.{[], arith}
use Rattle.cs_reason_words.proofs.LineEnds.{ends_behind}
use Rattle.cs_reason_words.proofs.form.put_entry.Goals as goal

pub returns : goal.returns
returns c = ends_behind _ _ [] 93 (λ e. omega arith) c.in_ok-push_str-3.ensures.bytes
