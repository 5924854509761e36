use Rattle.std.proofs.Common.{◌≡◌, ℕ, List, Bool, IfOk, subst}
use Rattle.cs_document.specs.Document.{Document}
use Rattle.cs_package.specs.Environment.{Names}
use Rattle.cs_instance.specs.Instance.{Rule, definition, IsInstance}
use Rattle.cs_instance.proofs.Meaning as meaning
use Rattle.cs_instance.proofs.judging.is_instance.Goals as goal

pub returns-in_default-clause-one_meaning : goal.returns-in_default-clause-one_meaning
returns-in_default-clause-one_meaning c = meaning.one_meaning c.args.«package».now c.package-package.ensures.guarded

pub returns-clause-answer : goal.returns-clause-answer
returns-clause-answer c =
    let E = c.args.«package».now in
    subst (λ d. IfOk c.instance_verdict.result (λ b. (n : List ℕ) × Names E c.args.root.now n × ((I : Rule → Document → Bool) → IsInstance E I → b ≡ I (definition n) d)))
    c.in-Ok.ensures.found c.instance_verdict.ensures.answer
