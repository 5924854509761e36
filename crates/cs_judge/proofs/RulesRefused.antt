-- What refuses the rules of a run.
use Rattle.std.proofs.Common.{◌≡◌, ◌⊎◌, inl, inr, ℕ, List, Result, Ok, Err, IfErr, subst}
use Rattle.cs_judge.specs.Judged.{call_on}
use Rattle.cs_judge.specs.Runs.{IsOfRules}
use Rattle.cs_tool.specs.Runs.{IsCallRefusal}
use Rattle.cs_tool.specs.declared.fault.Fault.{Fault}
use Rattle.cs_tool.specs.declared.fault.Fault.TheVariants.{OutOfMemory, ReadFailed, WriteFailed}
use Rattle.cs_tool.specs.declared.rules.Rules.{Rules}
use Rattle.cs_tool.specs.declared.rules.Rules.TheVariants.{Root, Schema, Both}

-- a failed read or write is no refusal of the rules
pub not_of_rules : {T : Type 0} (Q : Type 0) (r : Result T Fault) → IfErr r (λ e. (e ≡ ReadFailed) ⊎ (e ≡ WriteFailed)) → IfErr r (λ e. IsOfRules e → Q)
not_of_rules Q (Ok v) h = tt
not_of_rules Q (Err e) (inl is) = λ of. absurd (subst IsOfRules is of)
not_of_rules Q (Err e) (inr is) = λ of. absurd (subst IsOfRules is of)

-- memory may run out in every call
pub memory_refuses : (rules : Rules) (text : List ℕ) → IsCallRefusal (call_on rules text) OutOfMemory
memory_refuses (Root p sources root) text = tt
memory_refuses (Schema taken schema) text = tt
memory_refuses (Both p sources root) text = tt
