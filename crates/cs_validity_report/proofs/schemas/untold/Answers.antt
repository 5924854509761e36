use Rattle.std.proofs.Common.{[], codes, arith, refl}
use Rattle.cs_reason_words.proofs.LineEnds.{ends_behind}
use Rattle.cs_validity_report.proofs.schemas.untold.Goals as goal

pub returns-in-Lines : goal.returns-in-Lines
returns-in-Lines c =
    let front = codes "the reasons aren't told: values and required names make more than 67,108,864 pair" in
    rw c.in-Lines.is (ends_behind _ [] front 115 (λ e. omega arith) refl)
