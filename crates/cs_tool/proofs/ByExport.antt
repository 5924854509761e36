-- What refuses an export refuses the calls that judge by the root.
use Rattle.std.proofs.Common.{◌≡◌, ℕ, true, false, List, inl, inr}
use Rattle.cs_grammar.specs.declared.profile.Profile.{Profile}
use Rattle.cs_tool.specs.First.{SourcesFault, First}
use Rattle.cs_tool.specs.CallRefusals.{ExportRefusal, VetRefusal, AgreeRefusal}
use Rattle.cs_tool.specs.declared.fault.Fault.{Fault}
use Rattle.cs_tool.specs.declared.fault.Fault.TheVariants.{OutOfMemory, UnknownRoot, NotJson, NotInteger, TooManyPairs}

module _ (p : Profile) (sources : List (List ℕ)) (root : List ℕ) where
  not_first : (f : Fault) → ¬ (SourcesFault p sources f) → ¬ (f ≡ UnknownRoot) → First p sources root f → ⊥
  not_first f source unknown (inl h) = source h
  not_first f source unknown (inr h) = unknown h.0

  pub vet_by_export : (text : List ℕ) (e : Fault) → ExportRefusal p sources root e → VetRefusal p sources root text e
  vet_by_export text OutOfMemory h = tt
  vet_by_export text (NotJson o c) h = absurd (not_first (NotJson o c) (λ x. x) (λ is. cc) h)
  vet_by_export text (NotInteger o false) h = absurd (not_first (NotInteger o false) (λ x. x) (λ is. cc) h)
  vet_by_export text (TooManyPairs i r false) h = absurd (not_first (TooManyPairs i r false) (λ x. x) (λ is. cc) h)
  vet_by_export text _ h = h

  pub agree_by_export : (text : List ℕ) (e : Fault) → ExportRefusal p sources root e → AgreeRefusal p sources root text e
  agree_by_export text OutOfMemory h = tt
  agree_by_export text (NotJson o c) h = absurd (not_first (NotJson o c) (λ x. x) (λ is. cc) h)
  agree_by_export text (NotInteger o false) h = absurd (not_first (NotInteger o false) (λ x. x) (λ is. cc) h)
  agree_by_export text (TooManyPairs i r false) h = absurd (not_first (TooManyPairs i r false) (λ x. x) (λ is. cc) h)
  agree_by_export text (TooManyPairs i r true) h = absurd (not_first (TooManyPairs i r true) (λ x. x) (λ is. cc) h)
  agree_by_export text _ h = h
