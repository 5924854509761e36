-- When a document isn't judged.
use Rattle.std.specs.Prelude.{◌≡◌, ℕ, ◌<◌, ◌*◌, length}
use Rattle.cs_document.specs.Document.{Document}
use Rattle.cs_flat.specs.Nodes.{nodes}
use Rattle.cs_table.specs.Limit.{most_pairs}
use Rattle.cs_validate.specs.Rules.{rules_of}
use Rattle.cs_table.specs.declared.fault.TableFault.{TableFault}
use Rattle.cs_table.specs.declared.fault.TableFault.TheVariants.{OutOfMemory, TooManyPairs}

-- the document d has so many values and R so many rules, and these make more pairs than a table may have
pub record AreManyPairs (R d : Document) (item_count rule_count : ℕ) : Type 0 where
  pub items : item_count ≡ length (nodes d)
  pub rules : rule_count ≡ length (rules_of R)
  pub many : most_pairs < item_count * rule_count

-- memory may run out at any time
abbrev pub IsRefusal : TableFault → Document → Document → Type 0
IsRefusal OutOfMemory R d = Unit {0}
IsRefusal (TooManyPairs items rules) R d = AreManyPairs R d items rules
