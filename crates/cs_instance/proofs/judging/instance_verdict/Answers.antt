use Rattle.std.proofs.Common.{ℕ, List, Result, Ok, Err, IfErr, IsErrOf, refl}
use Rattle.std.proofs.lemmas.Result.{IfOk-weaker}
use Rattle.cs_document.specs.Document.{Document}
use Rattle.cs_flat.specs.Listed.{document_in}
use Rattle.cs_package.specs.Environment.{Environment, Names}
use Rattle.cs_instance.specs.Refusal.{AreManyPairs, IsRefusal}
use Rattle.cs_instance.specs.declared.fault.InstanceFault.{InstanceFault}
use Rattle.cs_instance.specs.declared.fault.InstanceFault.TheVariants.{OutOfMemory, UnknownRoot, TooManyPairs}
use Rattle.cs_instance.proofs.Meaning as meaning
use Rattle.cs_instance.proofs.judging.instance_verdict.Goals as goal

-- what refuses the verdict refuses the call
refused : {T : Type 0} (E : Environment) (root n : List ℕ) (d : Document) → Names E root n → (r : Result T InstanceFault) → ((i j : ℕ) → IsErrOf r (TooManyPairs i j) → AreManyPairs E n d i j) → (IsErrOf r UnknownRoot → ⊥) → IfErr r (λ e. IsRefusal e E root d)
refused E root n d named (Ok v) many known = tt
refused E root n d named (Err OutOfMemory) many known = tt
refused E root n d named (Err UnknownRoot) many known = absurd (known refl)
refused E root n d named (Err (TooManyPairs i j)) many known = (n, named, many i j refl)

pub returns-in_err-rules-clause-one_meaning : goal.returns-in_err-rules-clause-one_meaning
returns-in_err-rules-clause-one_meaning c = meaning.one_meaning c.args.«package».now c.package-package.ensures.guarded

pub returns-clause-one_meaning : goal.returns-clause-one_meaning
returns-clause-one_meaning c = meaning.one_meaning c.args.«package».now c.package-package.ensures.guarded

pub returns-clause-answer : goal.returns-clause-answer
returns-clause-answer c =
    let r = c.in_ok-rules.rules in
    let kept = c.in_ok-rules.ensures.package_kept in
    IfOk-weaker c.verdict.result _ _ (λ b h. (r.1, c.in_ok-rules.ensures.named, rw kept at h)) c.verdict.ensures.answer

pub returns-clause-refused : goal.returns-clause-refused
returns-clause-refused c =
    let many = rw c.in_ok-rules.ensures.package_kept at c.verdict.ensures.many in
    refused c.args.«package».now c.args.root.now c.in_ok-rules.rules.1 (document_in c.args.flat.now) c.in_ok-rules.ensures.named c.verdict.result many c.verdict.ensures.known
