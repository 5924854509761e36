use Rattle.std.proofs.Common.{◌≡◌, ℕ, Bool, true, Some, slice_get, List, [], ◌∷◌, sym, subst}
use Rattle.std.specs.List.{AllByRecursion}
use Rattle.std.proofs.lemmas.Result.{IfOk-weaker}
use Rattle.cs_package.specs.Environment.{Environment}
use Rattle.cs_question.specs.NoInstance.{HasNoDocument}
use Rattle.cs_check.specs.declared.warnings.Warning.{Warning}
use Rattle.cs_check.proofs.warnings.warned.Goals as goal

-- what the question found has no instance that is a document
module _ (E : Environment) (empty : List Bool) (sound : (i : ℕ) → slice_get empty i ≡ Some true → HasNoDocument E i) where
  each : (ws : List Warning) → AllByRecursion (λ w. slice_get empty w.definition ≡ Some true) ws
      → AllByRecursion (λ w. HasNoDocument E w.definition) ws
  each [] h = tt
  each (w ∷ ws) h = (sound w.definition h.0, each ws h.1)

pub returns-in-Ok : goal.returns-in-Ok
returns-in-Ok c =
    let E = c.args.«package».now in
    let sound : (i : ℕ) → slice_get c.deref.result.now i ≡ Some true → HasNoDocument E i
    = subst (λ es. (i : ℕ) → slice_get es i ≡ Some true → HasNoDocument E i) (sym c.deref.ensures.value) c.in-Ok.ensures.none in
    record { none = IfOk-weaker c.told.result _ _ (λ v h. each E c.deref.result.now sound v.items h) c.told.ensures }
