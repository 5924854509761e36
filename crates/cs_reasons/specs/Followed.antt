-- Which causes are followed, where of alternatives those that were chosen are.
use Rattle.std.specs.Prelude.{◌≡◌, ℕ, Bool, true, false, not, ◌||◌, List, Option, Some, None, slice_get}
use Rattle.std.proofs.Common.{sym, ◌∙◌}
use Rattle.cs_table.specs.Judged.{AllVerdicts, IsEarlier}
use Rattle.cs_reasons.specs.Reasons.{IsFollowed}

-- whether a cause leads to a pair of a set
abbrev pub leads_into : AllVerdicts → Option (ℕ × ℕ) → Bool
leads_into chosen None = false
leads_into chosen (Some p) = chosen p.0 p.1

module _ {C : Type 0} (leads_to : C → Option (ℕ × ℕ)) (is_alternative : C → Bool) where
  abbrev pub is_followed : AllVerdicts → C → Bool
  is_followed chosen c = not (is_alternative c) || leads_into chosen (leads_to c)

  -- one of the causes is an alternative, or none is
  abbrev pub HasAlternative : List C → Bool → Type 0
  HasAlternative cs true = (k : ℕ) × (c : C) × (slice_get cs k ≡ Some c) × (is_alternative c ≡ true)
  HasAlternative cs false = (k : ℕ) (c : C) → slice_get cs k ≡ Some c → is_alternative c ≡ false

  -- these are alternatives among the causes
  abbrev pub AreAlternatives : List C → List C → Type 0
  AreAlternatives cs found = (k : ℕ) (c : C) → slice_get found k ≡ Some c → ((j : ℕ) × (slice_get cs j ≡ Some c)) × (is_alternative c ≡ true)

  -- what is followed leads to earlier pairs too
  pub followed_earlier : (is_cause : ℕ → ℕ → C → Type 0) (refused : ℕ → ℕ → Type 0) (none : C) (chosen : AllVerdicts)
      → ((i r j q : ℕ) (c : C) → is_cause i r c → leads_to c ≡ Some (j, q) → refused j q × IsEarlier j q i r) → leads_to none ≡ None
      → (i r j q : ℕ) (c : C) → IsFollowed leads_to is_cause is_alternative none chosen i r c → leads_to c ≡ Some (j, q) → refused j q × IsEarlier j q i r
  followed_earlier is_cause refused none chosen earlier leaf i r j q c (IsFollowed.other cause alone) lead = earlier i r j q c cause lead
  followed_earlier is_cause refused none chosen earlier leaf i r j q c (IsFollowed.alternative cause is to chose) lead = earlier i r j q c cause lead
  followed_earlier is_cause refused none chosen earlier leaf i r j q c (IsFollowed.unchosen cause is all) lead = let x = sym leaf ∙ lead in absurd (cc)
