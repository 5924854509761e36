use Rattle.std.proofs.Common.{◌≡◌, ℕ, true, false, List, Option, Some, None, IfSome, IfNone, Bor, map, sym, subst, ◌∙◌}
use Rattle.std.specs.Option.{is_some}
use Rattle.std.proofs.lemmas.Result.{err_from_is_err_and}
use Rattle.cs_grammar.specs.declared.profile.Profile.{Profile}
use Rattle.cs_package.specs.Environment.{Environment, Names, name_at}
use Rattle.cs_tool.specs.Accepted.{IsAccepted, DeclaresRoot}
use Rattle.cs_tool.proofs.Declared.{one_environment}
use Rattle.cs_tool.proofs.read_rules.read_root.Goals as goal

abbrev now : Bor (List ℕ) → List ℕ
now s = s.now

none_known : {X : Type 0} (o : Option X) (P : Type 0) → is_some o ≡ false → IfNone o P → P
none_known None P is h = h
none_known (Some x) P is h = cc

declared : (p : Profile) (sources : List (List ℕ)) (root : List ℕ) {E P : Environment} (o : Option ℕ) → P ≡ E → IsAccepted p sources E → is_some o ≡ true
    → IfSome o (λ i. (n : List ℕ) × Names P root n × (name_at P i ≡ Some n)) → (n : List ℕ) × DeclaresRoot p sources root E n
declared p sources root None kept accepted is h = cc
declared p sources root (Some i) kept accepted is h = (h.0, record { accepted = accepted; named = subst (λ F. Names F root h.0) kept h.1 })

pub returns-in_err-guarded-clause-only : goal.returns-in_err-guarded-clause-only
returns-in_err-guarded-clause-only c = λ ready.
    let p = err_from_is_err_and c.from_residual.result c.from_residual.ensures.1 in
    rw (p.1, p.2) (c.in_err-guarded.ensures.only ready.0 ready.2.accepted)

pub returns-then-is_none-clause-only : goal.returns-then-is_none-clause-only
returns-then-is_none-clause-only c = λ ready.
    let root = c.args.root.now in
    let E = c.package.result.now in
    let unknown = none_known c.find.result ((n : List ℕ) → Names E root n → ⊥) c.if-is_none.ensures c.find.ensures.unknown in
    let same = one_environment ready.2.accepted c.in_ok-guarded.ensures.accepted ∙ sym c.package.ensures.kept in
    absurd (unknown ready.1 (subst (λ F. Names F root ready.1) same ready.2.named))

pub returns-clause-found : goal.returns-clause-found
returns-clause-found c =
    declared c.args.profile (map now c.args.sources.now) c.args.root.now c.find.result c.package.ensures.kept c.in_ok-guarded.ensures.accepted c.if-is_none.ensures c.find.ensures.found
