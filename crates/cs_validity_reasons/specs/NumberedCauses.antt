-- Why items are refused by numbered rules: causes over the numbers of items and of rules, where a table has the verdicts.
use Rattle.std.specs.Prelude.{◌≡◌, ℕ, List, Option, Some, None, slice_get}
use Rattle.cs_document.specs.Opened.{Opened}
use Rattle.cs_flat.specs.Listed.{values}
use Rattle.cs_flat.specs.Nodes.{node_at}
use Rattle.cs_table.specs.Judged.{AllVerdicts}
use Rattle.cs_profile.specs.Constraint.{Constraint}
use Rattle.cs_validity_reasons.specs.Causes.{Cause, reference, part, alternative, property, additional, prefix, items, never_valid, no_alternative, missing, by_keyword, IsCause}

-- a cause that names items and rules by their numbers
abbrev pub NumberedCause : Type 0
NumberedCause = Cause ℕ ℕ ℕ

-- the pair that a cause of the item i leads to
abbrev pub led_from : ℕ → NumberedCause → Option (ℕ × ℕ)
led_from i (reference q) = Some (i, q)
led_from i (part k q) = Some (i, q)
led_from i (alternative k q) = Some (i, q)
led_from i (property k y q) = Some (y, q)
led_from i (additional k y q) = Some (y, q)
led_from i (prefix k y q) = Some (y, q)
led_from i (items k y q) = Some (y, q)
led_from i never_valid = None
led_from i no_alternative = None
led_from i (missing k) = None
led_from i (by_keyword w) = None

-- of the items xs and of rules that ask this, by the verdicts f: a cause of the item i and the rule r
pub record IsNumberedCause (f : AllVerdicts) (xs : List (Opened ℕ)) (asked : List (Constraint ℕ ℕ)) (i r : ℕ) (c : NumberedCause) : Type 0 where
  pub value : Opened ℕ
  pub rule : Constraint ℕ ℕ
  pub at_item : slice_get xs i ≡ Some value
  pub at_rule : slice_get asked r ≡ Some rule
  pub cause : IsCause (f i) f (node_at (values xs) i) value rule c
