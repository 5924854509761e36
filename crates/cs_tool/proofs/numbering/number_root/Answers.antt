use Rattle.std.proofs.Common.{◌≡◌, ℕ, List, Result, Err, IsErrOf, refl, sym, subst}
use Rattle.std.proofs.lemmas.Result.{err_from_is_err_and}
use Rattle.cs_grammar.specs.declared.profile.Profile.{Profile}
use Rattle.cs_package.specs.Environment.{Environment, Names}
use Rattle.cs_instance.specs.declared.fault.InstanceFault.{InstanceFault}
use Rattle.cs_instance.specs.declared.fault.InstanceFault.TheVariants as instance
use Rattle.cs_instance.specs.declared.numbered.RootRules.{RootRules}
use Rattle.cs_tool.specs.Accepted.{IsAccepted, DeclaresRoot}
use Rattle.cs_tool.specs.Conversions.{of_instance}
use Rattle.cs_tool.specs.declared.fault.Fault.TheVariants.{OutOfMemory}
use Rattle.cs_tool.proofs.numbering.number_root.Goals as goal

abbrev unnumbered : InstanceFault → Result RootRules InstanceFault
unnumbered e = Err e

-- a declared root isn't told as unknown
memory : (E : Environment) (root n : List ℕ) → Names E root n → (e : InstanceFault) → (IsErrOf (unnumbered e) instance.UnknownRoot → (m : List ℕ) → ¬ (Names E root m))
    → ((i r : ℕ) → IsErrOf (unnumbered e) (instance.TooManyPairs i r) → ⊥) → of_instance e ≡ OutOfMemory
memory E root n named instance.OutOfMemory unknown many = refl
memory E root n named instance.UnknownRoot unknown many = absurd (unknown refl n named)
memory E root n named (instance.TooManyPairs i r) unknown many = absurd (many i r refl)

declared : (p : Profile) (sources : List (List ℕ)) (root : List ℕ) (E F : Environment) (m : List ℕ) → F ≡ E → Names E root m → IsAccepted p sources E → DeclaresRoot p sources root F m
declared p sources root E F m kept named accepted = record { accepted = subst (IsAccepted p sources) (sym kept) accepted; named = subst (λ G. Names G root m) (sym kept) named }

pub returns-in_err-root_rules-clause-memory : goal.returns-in_err-root_rules-clause-memory
returns-in_err-root_rules-clause-memory c = λ p sources n declares.
    let refused = c.in_err-root_rules.ensures in
    let p = err_from_is_err_and c.from_residual.result c.from_residual.ensures.1 in
    rw (p.1, p.2) (memory c.args.guarded.now c.args.root.now n declares.named c.in_err-root_rules.field-0.0 refused.unknown refused.fits)

pub returns-clause-found : goal.returns-clause-found
returns-clause-found c = λ p sources n declares.
    let numbered = c.in_ok-root_rules.ensures in
    declared p sources c.args.root.now c.args.guarded.now _ _ numbered.package_kept numbered.named declares.accepted
