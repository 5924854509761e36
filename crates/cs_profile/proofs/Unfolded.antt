-- Validity by so many steps.
use Rattle.std.proofs.Common.{◌≡◌, ℕ, zero, suc, Bool, true, false, List, refl, ◌∙◌}
use Rattle.std.specs.List.{list_all, list_any}
use Rattle.cs_document.specs.Document.{Document}
use Rattle.cs_document.specs.Opened.{opened}
use Rattle.cs_profile.specs.Constraint.{constraint_of}
use Rattle.cs_profile.specs.Validity.{is_satisfied, IsValidity}

-- what a schema asks, so many times unfolded
abbrev pub unfolded : ℕ → Document → (Document → Document → Bool) → Document → Document → Bool
unfolded zero R V s x = V s x
unfolded (suc k) R V s x = is_satisfied (λ p. unfolded k R V p x) (λ y p. unfolded k R V p y) (constraint_of R s) x (opened x)

-- validity is what it asks, however often that is unfolded
pub unfolds : (k : ℕ) (R : Document) {V : Document → Document → Bool} → IsValidity R V → (s x : Document) → V s x ≡ unfolded k R V s x
unfolds zero R h s x = refl
unfolds (suc k) R h s x = h s x ∙ λ i. is_satisfied (λ p. unfolds k R h p x i) (λ y p. unfolds k R h p y i) (constraint_of R s) x (opened x)

-- what holds of V by so many steps, whatever comes after them
module _ (k : ℕ) (R : Document) {V : Document → Document → Bool} (h : IsValidity R V) where
  pub all_valid : (xs : List Document) → list_all (unfolded k R V R) xs ≡ true → list_all (V R) xs ≡ true
  all_valid xs e = (λ i. list_all (λ x. unfolds k R h R x i) xs) ∙ e

  pub none_valid : (xs : List Document) → list_any (unfolded k R V R) xs ≡ false → list_any (V R) xs ≡ false
  none_valid xs e = (λ i. list_any (λ x. unfolds k R h R x i) xs) ∙ e
