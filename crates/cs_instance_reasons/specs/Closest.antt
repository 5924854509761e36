-- What is told where of alternatives some are chosen: chains of causes over the numbers of rules and values, which of
-- alternatives go into the chosen ones, and into everything else.
use Rattle.std.specs.Prelude.{◌≡◌, ℕ, ◌<◌, Bool, true, false, List, Some, None, Contains, length, slice_get}
use Rattle.cs_document.specs.Document.{Document}
use Rattle.cs_document.specs.Opened.{Opened}
use Rattle.cs_flat.specs.Listed.{values}
use Rattle.cs_flat.specs.Nodes.{node_at}
use Rattle.cs_table.specs.Judged.{AllVerdicts}
use Rattle.cs_package.specs.Environment.{Environment}
use Rattle.cs_instance_reasons.specs.Causes.{Cause, alternative, no_alternative}
use Rattle.cs_instance.specs.Constraint.{Constraint}
use Rattle.cs_instance.specs.Instance.{Rule}
use Rattle.cs_instance.specs.Numbering.{rule_at, IsNumbering}
use Rattle.cs_instance_reasons.specs.NumberedCauses.{IsNumberedCause}
use Rattle.cs_instance_reasons.specs.Why.{way_of, end_of, map_cause}

module _ (asked : List (Constraint ℕ ℕ)) (xs : List (Opened ℕ)) (f chosen : AllVerdicts) where
  -- an alternative is gone into if it was chosen, and every other cause is
  abbrev pub IsGoneInto : ℕ → Cause ℕ ℕ ℕ → Type 0
  IsGoneInto i (alternative k s) = chosen i s ≡ true
  IsGoneInto i c = Unit {0}

  -- the pairs that such chains lead to from the pair i, r
  pub data IsFollowedTo (i r : ℕ) : ℕ → ℕ → Type 0 where
    stay : IsFollowedTo i r i r
    go : {j q k s : ℕ} {c : Cause ℕ ℕ ℕ} → IsFollowedTo i r j q → IsNumberedCause asked xs f j q c → IsGoneInto j c → end_of j c ≡ Some (s, k) → IsFollowedTo i r k s

  -- none of the alternatives of a pair was chosen
  abbrev pub HasNoneChosen : ℕ → ℕ → Type 0
  HasNoneChosen j q = (n s : ℕ) → IsNumberedCause asked xs f j q (alternative n s) → chosen j s ≡ false

-- the reasons of the item i and the rule r0, where rules and values have these numbers: the leaves that such chains lead to, and
-- where none of the alternatives was chosen that none of them admits the value
pub record AreOfChosen (E : Environment) (I : Rule → Document → Bool) (rules : List Rule) (xs : List (Opened ℕ)) {C : Type 0} (meaning : ℕ → C → Cause Document Rule Rule) (i : ℕ) (r0 : Rule) (all : List ((ℕ × ℕ) × C)) : Type 0 where
  -- what the rules ask, by their numbers, and the verdicts by the numbers
  pub asked : List (Constraint ℕ ℕ)
  pub numbering : IsNumbering E rules asked
  pub root : ℕ
  pub found : slice_get rules root ≡ Some r0
  pub verdicts : AllVerdicts
  pub by_meaning : (j q : ℕ) → j < length xs → q < length rules → verdicts j q ≡ I (rule_at rules q) (node_at (values xs) j)
  pub chosen : AllVerdicts
  -- each reason is at the end of such a chain
  pub only : (k : ℕ) (e : (ℕ × ℕ) × C) → slice_get all k ≡ Some e → IsFollowedTo asked xs verdicts chosen i root e.0.0 e.0.1
  -- no leaf is left out
  pub leaves : (j q : ℕ) (c : Cause ℕ ℕ ℕ) → IsFollowedTo asked xs verdicts chosen i root j q → IsNumberedCause asked xs verdicts j q c → way_of c ≡ None
      → (e : (ℕ × ℕ) × C) × Contains all e × (e.0 ≡ (j, q)) × (meaning j e.1 ≡ map_cause (node_at (values xs)) (rule_at rules) (rule_at rules) c)
  -- nor any alternatives
  pub none : (j q n s : ℕ) → IsFollowedTo asked xs verdicts chosen i root j q → IsNumberedCause asked xs verdicts j q (alternative n s) → HasNoneChosen asked xs verdicts chosen j q
      → (e : (ℕ × ℕ) × C) × Contains all e × (e.0 ≡ (j, q)) × (meaning j e.1 ≡ no_alternative)
