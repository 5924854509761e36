-- When a document isn't judged.
use Rattle.std.specs.Prelude.{◌≡◌, ℕ, ◌<◌, ◌*◌, List, length}
use Rattle.cs_document.specs.Document.{Document}
use Rattle.cs_flat.specs.Nodes.{nodes}
use Rattle.cs_table.specs.Limit.{most_pairs}
use Rattle.cs_package.specs.Environment.{Environment, Names}
use Rattle.cs_guard.specs.Reachable.{AreReachable}
use Rattle.cs_instance.specs.Rules.{rules_of}
use Rattle.cs_instance.specs.declared.fault.InstanceFault.{InstanceFault}
use Rattle.cs_instance.specs.declared.fault.InstanceFault.TheVariants.{OutOfMemory, UnknownRoot, TooManyPairs}

-- the document has so many values and the root reaches so many rules, and these make more pairs than a table may have
pub record AreManyPairs (E : Environment) (n : List ℕ) (d : Document) (item_count rule_count : ℕ) : Type 0 where
  pub names : List (List ℕ)
  pub reachable : AreReachable E n names
  pub items : item_count ≡ length (nodes d)
  pub rules : rule_count ≡ length (rules_of E names)
  pub many : most_pairs < item_count * rule_count

-- memory may run out at any time
abbrev pub IsRefusal : InstanceFault → Environment → List ℕ → Document → Type 0
IsRefusal OutOfMemory E root d = Unit {0}
IsRefusal UnknownRoot E root d = (n : List ℕ) → ¬ Names E root n
IsRefusal (TooManyPairs items rules) E root d = (n : List ℕ) × Names E root n × AreManyPairs E n d items rules
