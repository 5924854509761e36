use Rattle.std.proofs.Common.{◌≡◌, Bool, IfOk, subst}
use Rattle.cs_document.specs.Document.{Document}
use Rattle.cs_flat.specs.Listed.{document_in}
use Rattle.cs_profile.specs.Validity.{IsValidity}
use Rattle.cs_validate.proofs.judging.valid_verdict.Goals as goal

pub returns-clause-answer : goal.returns-clause-answer
returns-clause-answer c =
    subst (λ R. IfOk c.verdict.result (λ b. (V : Document → Document → Bool) → IsValidity R V → b ≡ V R (document_in c.args.flat.now))) c.in_ok-rules.ensures.schema c.verdict.ensures.answer
