-- What the judge of numbered rules answers by a table.
use Rattle.std.specs.Prelude.{ℕ, Bool, false, List, Option, Some, None, slice_get, slice_index}
use Rattle.cs_document.specs.Document.{Document}
use Rattle.cs_document.specs.Opened.{Opened}
use Rattle.cs_flat.specs.Nodes.{node_at}
use Rattle.cs_table.specs.Judged.{AllVerdicts, Judgement}
use Rattle.cs_rules.specs.Steps.{Step}

module _ {R : Type 0} (step : R → Step) where
  -- one step over a table, at a value of the document
  abbrev pub step_by : List ℕ → AllVerdicts → ℕ → R → Document → Opened ℕ → Bool
  step_by children f i rule d x = step rule (f i) (λ y p. f y (slice_index children p)) d x

  abbrev pub step_at : List ℕ → AllVerdicts → ℕ → Option R → Document → Option (Opened ℕ) → Bool
  step_at children f i None d x = false
  step_at children f i (Some rule) d None = false
  step_at children f i (Some rule) d (Some x) = step_by children f i rule d x

  -- what the judge of these rules, values and items answers
  abbrev pub answer : List R → List ℕ → List Document → List (Opened ℕ) → Judgement
  answer rules children ns items i r f = step_at children f i (slice_get rules r) (node_at ns i) (slice_get items i)
