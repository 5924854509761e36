-- When there is no table.
use Rattle.std.specs.Prelude.{◌≡◌, ℕ, ◌<◌, ◌*◌}
use Rattle.cs_table.specs.Limit.{most_pairs}
use Rattle.cs_table.specs.declared.fault.TableFault.{TableFault}
use Rattle.cs_table.specs.declared.fault.TableFault.TheVariants.{OutOfMemory, TooManyPairs}

-- memory may run out at any time; that there are too many pairs is said only where there are, with how many items and rules
-- make them
abbrev pub IsRefusal : ℕ → ℕ → TableFault → Type 0
IsRefusal items rules OutOfMemory = Unit {0}
IsRefusal items rules (TooManyPairs told_items told_rules) = (told_items ≡ items) × (told_rules ≡ rules) × (most_pairs < items * rules)
