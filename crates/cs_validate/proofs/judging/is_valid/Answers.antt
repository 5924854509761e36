use Rattle.std.proofs.Common.{◌≡◌, Bool, IfOk, subst}
use Rattle.cs_document.specs.Document.{Document}
use Rattle.cs_profile.specs.SchemaDocument.{document_of}
use Rattle.cs_profile.specs.Validity.{IsValidity}
use Rattle.cs_validate.proofs.judging.is_valid.Goals as goal

pub returns-clause-answer : goal.returns-clause-answer
returns-clause-answer c =
    let R = document_of c.args.schema.now in
    subst (λ d. IfOk c.valid_verdict.result (λ b. (V : Document → Document → Bool) → IsValidity R V → b ≡ V R d)) c.in-Ok.ensures.found c.valid_verdict.ensures.answer
