-- Causes over numbers: the rules and the values that a cause names are their places in lists.
use Rattle.std.specs.Prelude.{◌≡◌, ℕ, ◌<◌, false, List, Some, length, slice_get}
use Rattle.cs_document.specs.Opened.{Opened}
use Rattle.cs_table.specs.Judged.{AllVerdicts}
use Rattle.cs_instance.specs.Constraint.{Constraint}
use Rattle.cs_instance_reasons.specs.Causes.{Cause, IsCause}

-- the rules ask this, by the numbers of rules, of these items; f says whether an item is an instance of a rule
module _ (asked : List (Constraint ℕ ℕ)) (xs : List (Opened ℕ)) (f : AllVerdicts) where
  -- a pair of an item and a rule that is refused
  pub record IsRefusedPair (i r : ℕ) : Type 0 where
    pub item : i < length xs
    pub rule : r < length asked
    pub refused : f i r ≡ false

  -- a cause of the pair i, r
  pub record IsNumberedCause (i r : ℕ) (k : Cause ℕ ℕ ℕ) : Type 0 where
    pub asks : Constraint ℕ ℕ
    pub value : Opened ℕ
    pub at_rule : slice_get asked r ≡ Some asks
    pub at_item : slice_get xs i ≡ Some value
    pub cause : IsCause (f i) f asks value k
