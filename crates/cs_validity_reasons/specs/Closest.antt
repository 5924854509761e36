-- What is told where of alternatives some are chosen: chains of causes over the numbers of schemas and values, which of the
-- schemas of `anyOf` go into the chosen ones, and into everything else.
use Rattle.std.specs.Prelude.{◌≡◌, ℕ, ◌<◌, Bool, true, false, List, Some, None, Contains, length, slice_get}
use Rattle.cs_document.specs.Document.{Document}
use Rattle.cs_document.specs.Opened.{Opened}
use Rattle.cs_flat.specs.Listed.{values}
use Rattle.cs_flat.specs.Nodes.{node_at}
use Rattle.cs_table.specs.Judged.{AllVerdicts}
use Rattle.cs_profile.specs.Constraint.{Constraint}
use Rattle.cs_validity_reasons.specs.Causes.{alternative, no_alternative}
use Rattle.cs_validity_reasons.specs.NumberedCauses.{NumberedCause, IsNumberedCause}
use Rattle.cs_validate.specs.Numbering.{schema_at}
use Rattle.cs_validity_reasons.specs.Why.{led}

module _ (f : AllVerdicts) (xs : List (Opened ℕ)) (asked : List (Constraint ℕ ℕ)) (chosen : AllVerdicts) where
  -- an alternative is gone into if it was chosen, and every other cause is
  abbrev pub IsGoneInto : ℕ → NumberedCause → Type 0
  IsGoneInto i (alternative k s) = chosen i s ≡ true
  IsGoneInto i c = Unit {0}

  -- the pairs that such chains lead to from the pair i, r
  pub data IsFollowedTo (i r : ℕ) : ℕ → ℕ → Type 0 where
    stay : IsFollowedTo i r i r
    go : {j q k s : ℕ} {c : NumberedCause} → IsFollowedTo i r j q → IsNumberedCause f xs asked j q c → IsGoneInto j c → led j c ≡ Some (k, s) → IsFollowedTo i r k s

  -- none of the alternatives of a pair was chosen
  abbrev pub HasNoneChosen : ℕ → ℕ → Type 0
  HasNoneChosen j q = (n s : ℕ) → IsNumberedCause f xs asked j q (alternative n s) → chosen j s ≡ false

-- the reasons of the pair i, r, where schemas and values have these numbers: the leaves that such chains lead to, and where none
-- of the alternatives was chosen that none of them validates the value
pub record AreOfChosen (V : Document → Document → Bool) (rules : List Document) (xs : List (Opened ℕ)) (asked : List (Constraint ℕ ℕ)) (i r : ℕ) (all : List ((ℕ × ℕ) × NumberedCause)) : Type 0 where
  -- the verdicts by the numbers
  pub verdicts : AllVerdicts
  pub by_meaning : (j q : ℕ) → j < length xs → q < length rules → verdicts j q ≡ V (schema_at rules q) (node_at (values xs) j)
  pub chosen : AllVerdicts
  -- each reason is at the end of such a chain
  pub only : (k : ℕ) (e : (ℕ × ℕ) × NumberedCause) → slice_get all k ≡ Some e → IsFollowedTo verdicts xs asked chosen i r e.0.0 e.0.1
  -- no leaf is left out
  pub leaves : (j q : ℕ) (c : NumberedCause) → IsFollowedTo verdicts xs asked chosen i r j q → IsNumberedCause verdicts xs asked j q c → led j c ≡ None → Contains all ((j, q), c)
  -- nor any alternatives
  pub none : (j q n s : ℕ) → IsFollowedTo verdicts xs asked chosen i r j q → IsNumberedCause verdicts xs asked j q (alternative n s) → HasNoneChosen verdicts xs asked chosen j q → Contains all ((j, q), no_alternative)
